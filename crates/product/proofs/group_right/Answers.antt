-- Question 7, the group: two letters, two digits, the first of them the kind's. The answers of the calls, joined in the definition's order; the
-- places read are found by search.
use mathlib.Core.Path.{ap, ap₂}
use mathlib.Core.Bool.{◌&&◌}
use lib.Dec.{eqb}
use Rattle.product.specs.Fields.{group_right}
use Rattle.product.proofs.group_right.Goals as goal

pub returns : goal.returns
unfolding group_right
returns c = ap₂ ◌&&◌ (ap₂ ◌&&◌ (ap₂ ◌&&◌ (ap₂ ◌&&◌ c.is_letter.ensures c.is_letter-2.ensures)
    c.is_digit.ensures) c.is_digit-2.ensures) (ap (eqb _) c.first_digit.ensures)
