-- Each case of the verdict has its line. No refusal has the number 0 (`numbered-from-1`).
use mathlib.Core.Path.{◌≡◌, ◌∙◌, ap}
use native.Mathlib.Omega.{arith}
use Prim.Native.Nat.{ℕ}
use Rattle.std.specs.Prelude.{Option, Some, None, Result, Ok}
use Rattle.questions.specs.declared.Refusal.{Refusal}
use borrow.Author.Tests.{ne_eqb}
use Rattle.questions.specs.Refusals.{refusal_number}
use Rattle.questions.proofs.Refusals.{numbered-from-1}
use Rattle.confirm_inputs.specs.ConfirmInputs.{judged_text}
use Rattle.confirm_inputs.proofs.judged_line.Goals as goal

-- a verdict by its two patterns
by-both : (v : Result (Option ℕ) Refusal) (x o : Option ℕ) → v ≡ Ok x → x ≡ o → v ≡ Ok o
by-both v x o p q = p ∙ ap (λ (y : Option ℕ). Ok y) q

pub returns-in-Ok-None : goal.returns-in-Ok-None
unfolding judged_text
returns-in-Ok-None c = rw (by-both c.args.verdict c.in-Ok-None.field-0 None c.in-Ok-None.is
    (rw c.in-Ok-None.is at c.in-Ok-None.field-0-is)) c.yes_line.ensures

pub returns-in-Ok-Some : goal.returns-in-Ok-Some
unfolding judged_text
returns-in-Ok-Some c = rw (by-both c.args.verdict c.in-Ok-Some.field-0 (Some c.in-Ok-Some.key) c.in-Ok-Some.is
    (rw c.in-Ok-Some.is at c.in-Ok-Some.field-0-is)) c.differs_line.ensures

pub returns-in-Err : goal.returns-in-Err
unfolding judged_text
returns-in-Err c =
    let r = c.in-Err.refusal in
    rw (c.in-Err.is, ne_eqb (refusal_number r) 0 (λ z. omega (arith, numbered-from-1 r, z))) (rw c.number.ensures at c.refused_line.ensures)
