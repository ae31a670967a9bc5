-- The numbers that cash is defined for: the answers of the four calls, joined in the definition's order.
use mathlib.Core.Path.{ap₂}
use mathlib.Core.Bool.{◌&&◌}
use Rattle.amounts.specs.Prices.{cash_admitted}
use Rattle.amounts.proofs.cash_admitted.Goals as goal

pub returns : goal.returns
unfolding cash_admitted
returns c = ap₂ ◌&&◌ (ap₂ ◌&&◌ (ap₂ ◌&&◌ c.price_right.ensures c.final_right.ensures)
    c.contracts_right.ensures) c.size_right.ensures
