-- The file was read to its end, or it fills the buffer and is refused whatever follows: so the answer to the bytes that came is
-- the answer to every input that begins with them.
use mathlib.Core.Path.{sym, ◌∙◌}
use native.Mathlib.Omega.{arith}
use Rattle.program_runs.proofs.WholeInputs.{answers-unread, answers-all}
use Rattle.decompose_run.proofs.FileFirstBytes.{decided}
use Rattle.decompose_run.proofs.run.Goals as goal

pub returns-then-has_failed : goal.returns-then-has_failed
returns-then-has_failed c =
    let u = c.unread.ensures in
    answers-unread _ _ _ _ _ _ c.read_on_or_tell-read.ensures c.nothing_read-none.ensures.1 c.file-2-1.given _
    u.0 (sym c.has_failed.ensures ∙ c.if-has_failed.true) u.1 u.2

pub answer-said-requires : goal.answer-said-requires
answer-said-requires c =
    let w = c.read_on_or_tell-read.ensures.within in
    omega (arith, w.0, w.1, c.file-2-1.given)

pub returns : goal.returns
returns c =
    let u = c.ended.ensures in
    let a = c.answer-said.ensures in
    answers-all _ _ _ _ _ _ c.read_on_or_tell-read.ensures c.nothing_read-none.ensures.1 c.file-2-1.given
    decided _ u.0 (sym c.has_failed.ensures ∙ c.if-has_failed.false) (rw u.1 a.0) (rw (u.1, ← a.1) u.2)
