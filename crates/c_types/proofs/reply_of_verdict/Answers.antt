-- The reply is the verdict: yes, no with a key, or the number of the refusal. In each of the three cases both sides compute to the same.
use mathlib.Core.Path.{◌≡◌, refl, ◌∙◌, ap}
use Prim.Native.Nat.{ℕ}
use Rattle.std.specs.Prelude.{Option, Some, None, Result, Ok}
use Rattle.questions.specs.declared.Refusal.{Refusal}
use Rattle.c_types.proofs.reply_of_verdict.Goals as goal

-- a verdict by its two patterns
by-both : (v : Result (Option ℕ) Refusal) (x o : Option ℕ) → v ≡ Ok x → x ≡ o → v ≡ Ok o
by-both v x o p q = p ∙ ap (λ (y : Option ℕ). Ok y) q

pub returns-in-Ok-None : goal.returns-in-Ok-None
returns-in-Ok-None c = rw (by-both c.args.verdict c.in-Ok-None.field-0 None c.in-Ok-None.is
    (rw c.in-Ok-None.is at c.in-Ok-None.field-0-is)) refl

pub returns-in-Ok-Some : goal.returns-in-Ok-Some
returns-in-Ok-Some c = rw (by-both c.args.verdict c.in-Ok-Some.field-0 (Some c.in-Ok-Some.key) c.in-Ok-Some.is
    (rw c.in-Ok-Some.is at c.in-Ok-Some.field-0-is)) refl

pub returns-in-Err : goal.returns-in-Err
returns-in-Err c = rw (c.in-Err.is, c.number.ensures) refl
