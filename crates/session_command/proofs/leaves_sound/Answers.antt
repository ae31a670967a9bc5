-- The answer is yes for a letter other than O, and for an O the calendar's answer and the product's together: each `return`
-- rewrites by its tests.
use mathlib.Core.Path.{◌≡◌, refl}
use mathlib.Core.Bool.{true, false}
use borrow.Author.Tests.{eq-eqb, ne_eqb}
use Rattle.questions.proofs.Bools.{said-no, said-yes}
use Rattle.session_command.proofs.leaves_sound.Goals as goal

pub returns-then-letter-ne79 : goal.returns-then-letter-ne79
returns-then-letter-ne79 c = rw (ne_eqb _ _ c.if-letter-ne79.true)

pub returns-then-not-right : goal.returns-then-not-right
returns-then-not-right c =
    let wrong : c.args.right ≡ false = said-no refl c.if-not-right.true in
    rw (eq-eqb _ _ c.if-letter-ne79.false, wrong)

pub returns : goal.returns
returns c =
    let right : c.args.right ≡ true = said-yes refl c.if-not-right.false in
    rw (eq-eqb _ _ c.if-letter-ne79.false, right) c.product_right.ensures
