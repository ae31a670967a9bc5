-- The input was read to its end, or it fills the buffer and its first 65,537 bytes decide the line: so the answer to the bytes that came is
-- the answer to every input that begins with them.
use mathlib.Core.Path.{sym, ◌∙◌}
use mathlib.Core.List.{List}
use Prim.Native.Nat.{ℕ}
use Rattle.program_runs.proofs.WholeInputs.{DecidedBy, answers-unread, answers-all}
use Rattle.confirm_inputs.specs.ConfirmInputs.{confirm_text, confirm_refused}
use Rattle.confirm_inputs.proofs.FirstBytes.{confirm-same, refused-same}
use Rattle.confirm_run.proofs.run_with.Goals as goal

decided : (file : List ℕ) → DecidedBy 65537 (confirm_text file) (confirm_refused file)
decided file = record { same_text = confirm-same file; same-refused = refused-same file }

pub returns-then-has_failed : goal.returns-then-has_failed
returns-then-has_failed c =
    let u = c.unread.ensures in
    answers-unread _ _ _ _ _ _ c.read_on_or_tell-read.ensures c.nothing_read-none.ensures.1 c.text-2-1.given _
    u.0 (sym c.has_failed.ensures ∙ c.if-has_failed.true) u.1 u.2

pub returns : goal.returns
returns c =
    let u = c.ended.ensures in
    let a = c.answer-said.ensures in
    answers-all _ _ _ _ _ _ c.read_on_or_tell-read.ensures c.nothing_read-none.ensures.1 c.text-2-1.given
    (decided c.args.file.now) _ u.0 (sym c.has_failed.ensures ∙ c.if-has_failed.false)
    (rw u.1 a.0)
    (rw (u.1, ← a.1) u.2)
