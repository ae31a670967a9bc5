-- Shown: the answer is the least n below 7 with a trading day n days after the day, else 7; of a day after 2099 it is 7.
-- The loop keeps: n is from 1 to 7, the day is below 36,525, so the sum fits, and the search from n on finds what the
-- search from 1 finds. A trading day is found (`search-at`), another is passed (`search-on`).
use native.Mathlib.Omega.{arith}
use mathlib.Core.Path.{sym, ◌∙◌}
use Rattle.table.proofs.Around.{on-late, on-starts, search-at, search-on, search-end}
use Rattle.table.proofs.steps_on.Goals as goal

-- ---- a day after 2099
pub returns-then-day-ge36525 : goal.returns-then-day-ge36525
returns-then-day-ge36525 c = on-late _ _ c.if-day-ge36525.true

-- ---- the loop
pub loop-n-init : goal.loop-n-init
loop-n-init c = (omega arith, omega arith, omega arith, on-starts _ _ c.if-day-ge36525.false)

pub returns-then-is_trading_day_in : goal.returns-then-is_trading_day_in
returns-then-is_trading_day_in c =
    search-at _ _ _ c.loop-n-test.true c.loop-n.invariant.3 (sym c.is_trading_day_in.ensures ∙ c.if-is_trading_day_in.true)

pub loop-n-preserved : goal.loop-n-preserved
loop-n-preserved c = (
  omega arith,
  omega arith,
  omega arith,
  search-on _ _ _ c.loop-n-test.true c.loop-n.invariant.3 (sym c.is_trading_day_in.ensures ∙ c.if-is_trading_day_in.false),
)

-- ---- after the loop
pub returns : goal.returns
returns c = search-end _ _ _ c.loop-n-test.false c.loop-n.invariant.3
