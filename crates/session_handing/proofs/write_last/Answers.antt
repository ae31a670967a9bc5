-- `write_last` writes the answer to a last line that no line feed ends: it is what comes
-- next of the text (`last`), and the bytes sent grow by its length (`last-count`); what it says of refusals is the session's.
use native.Mathlib.Omega.{arith}
use Rattle.session_parts.specs.TermsParts.{last}
use Rattle.session_parts.proofs.TermsRuns.{last-count}
use Rattle.session_handing.proofs.write_last.Goals as goal

pub returns-then-out-lt512 : goal.returns-then-out-lt512
returns-then-out-lt512 c = λ k z. absurd (omega (arith, k, c.if-out-lt512.true))

pub returns-then-reads_left-gt0 : goal.returns-then-reads_left-gt0
returns-then-reads_left-gt0 c = λ k z. absurd (omega (arith, z, c.reads_left.ensures, c.if-reads_left-gt0.true))

pub write_out-all-requires : goal.write_out-all-requires
write_out-all-requires c =
    let room = c.if-out-lt512.false in
    (omega (arith, c.answer_last-a.ensures.fits), last (c.answer_last-a.ensures.text room))

pub returns : goal.returns
returns c = λ k z.
    let a = c.answer_last-a.ensures in
    (a.refused, λ e. last-count _ _ _ _ _ _ _ _ k a (c.write_out-all.ensures e))
