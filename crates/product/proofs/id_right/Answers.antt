-- Question 7, the id: one to four characters. The first `return` cites that four pass, which makes the definition's disjunction true; the second
-- cites that they do not, and joins the answers for one, two and three.
use mathlib.Core.Path.{◌∙◌, sym, ap₂}
use mathlib.Core.Bool.{◌||◌, or-false}
use Rattle.questions.proofs.Bools.{or_right}
use Rattle.product.specs.Fields.{id_of_length, id_right}
use Rattle.product.proofs.id_right.Goals as goal

pub returns-then-id_of : goal.returns-then-id_of
unfolding id_right
returns-then-id_of c =
    let id = c.args.id in
    sym (or_right (id_of_length id 1 || id_of_length id 2 || id_of_length id 3) (sym c.id_of.ensures ∙ c.if-id_of.true))

pub returns : goal.returns
unfolding id_right
returns c =
    let at-if1 = c in
    let id = at-if1.args.id in
    ap₂ ◌||◌ (ap₂ ◌||◌ c.id_of-2.ensures c.id_of-3.ensures) c.id_of-4.ensures ∙
    sym (rw (sym at-if1.id_of.ensures ∙ at-if1.if-id_of.false) (or-false (id_of_length id 1 || id_of_length id 2 || id_of_length id 3)))
