-- The answer is whether the steps back and the steps on are together at most 7. Each is at most 7, so the sum fits
-- (`both_most`).
use native.Mathlib.Omega.{arith}
use Rattle.table.specs.Table.{trades_around}
use Rattle.table.proofs.Around.{both_most}
use Rattle.table.proofs.trades_around.Goals as goal

pub overflow_add-result : goal.overflow_add-result
overflow_add-result c =
    let most = both_most _ _ _ _ c.steps_back-back.ensures c.steps_on-on.ensures in
    omega (arith, most)

pub returns : goal.returns
unfolding trades_around
returns c = rw (c.steps_back-back.ensures, c.steps_on-on.ensures)
