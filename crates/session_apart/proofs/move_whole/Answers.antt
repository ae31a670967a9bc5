-- Shown: where `ten` is the answer to question 10, the rest and its maps move as the command's call on the table put
-- together. A refused call leaves them as they were (`whole-refused`); an accepted one gives the rest and the maps of its
-- table (`whole-accepted`).
use mathlib.Core.Path.{refl, ap}
use Rattle.table.specs.declared.Outcome.{Outcome}
use Rattle.session_apart.proofs.Keeping.{whole-refused, whole-accepted}
use Rattle.session_apart.proofs.move_whole.Goals as goal

pub returns-then-refusal-ne0 : goal.returns-then-refusal-ne0
returns-then-refusal-ne0 c = λ k.
    let o = (rw c.table_of-t.ensures at c.outcome_known-o.ensures) k in
    whole-refused _ _ _ _ _ _ (ap (λ (x : Outcome). x.refusal) o) c.if-refusal-ne0.true refl

pub returns : goal.returns
returns c = λ k.
    let o = (rw c.table_of-t.ensures at c.outcome_known-o.ensures) k in
    rw c.table_rest-next.ensures (whole-accepted _ _ _ o c.if-refusal-ne0.false)
