-- Question 7, all fields: the answers of the seven calls, joined in the definition's order.
use mathlib.Core.Path.{ap₂}
use mathlib.Core.Bool.{◌&&◌}
use Rattle.product.specs.Fields.{fields_right}
use Rattle.product.proofs.fields_right.Goals as goal

pub returns : goal.returns
unfolding fields_right
returns c =
    let at-kind-right = c in
    let at-market-right = at-kind-right in
    let at-group-right = at-market-right in
    let at-id-right = at-group-right in
    ap₂ ◌&&◌ (ap₂ ◌&&◌ (ap₂ ◌&&◌ (ap₂ ◌&&◌ (ap₂ ◌&&◌ (ap₂ ◌&&◌ at-id-right.id_right.ensures at-group-right.group_right.ensures)
    at-market-right.market_right.ensures) at-kind-right.kind_right.ensures) c.size_right.ensures)
    c.tick_right.ensures) c.currency_right.ensures
