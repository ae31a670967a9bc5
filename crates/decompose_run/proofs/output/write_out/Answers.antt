-- A write that the output takes adds as many bytes as were handed over; their count does not come near 2^64, as a file's text is short.
use native.Mathlib.Omega.{arith}
use lib.Seq.{length-take-le}
use Rattle.file_text_print.proofs.WholeText.{text-short}
use Rattle.decompose_run.proofs.output.write_out.Goals as goal

pub returns : goal.returns
returns c = λ e.
    let p = c.requires in
    let w = (c.write_next.ensures e).1 in
    omega (
      arith,
      w,
      p.2.within,
      length-take-le c.args.n c.args.out.now p.0,
      text-short c.args.file.now p.1,
    )
