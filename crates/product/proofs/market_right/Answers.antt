-- Question 7, the cash market: four letters. The answers of the four calls, joined as the definition joins them; the places read are found by search.
use mathlib.Core.Path.{ap₂}
use mathlib.Core.Bool.{◌&&◌}
use Rattle.questions.specs.Search.{every}
use Rattle.product.specs.Fields.{market_right}
use Rattle.product.proofs.market_right.Goals as goal

pub returns : goal.returns
unfolding market_right every
returns c = ap₂ ◌&&◌ (ap₂ ◌&&◌ (ap₂ ◌&&◌ c.is_letter.ensures c.is_letter-2.ensures)
    c.is_letter-3.ensures) c.is_letter-4.ensures
