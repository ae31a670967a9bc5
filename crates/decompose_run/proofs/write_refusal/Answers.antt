-- The line of a refusal is all of a refused file's text.
use native.Mathlib.Omega.{arith}
use Rattle.file_text_print.proofs.TextLengths.{refusal-fits}
use Rattle.file_text_print.proofs.WholeText.{refused-length, next-refused}
use Rattle.decompose_run.proofs.write_refusal.Goals as goal

pub write_out-requires : goal.write_out-requires
write_out-requires c =
    let pre = c.requires in
    let p = c.print_refusal-n.ensures in (
      omega (arith, refusal-fits _ _ p, p.long, pre.0),
      pre.1,
      rw c.nothing_sent.ensures.1 (next-refused _ _ pre.2 pre.3 _ _ _ p pre.0),
    )

pub returns : goal.returns
returns c = λ e.
    let pre = c.requires in
    omega (
      arith,
      c.write_out.ensures e,
      c.nothing_sent.ensures.1,
      refused-length _ _ pre.2 pre.3 _ _ _ c.print_refusal-n.ensures pre.0,
    )
