-- Shown: the answer is the least n below 7 with a trading day n days before the day, else 7.
-- The loop keeps: n is from 1 to 7, and the search from n on finds what the search from 1 finds. A day below n has no
-- earlier day left (`back_none`); a trading day is found (`search-at`), another is passed (`search-on`).
use native.Mathlib.Omega.{arith}
use mathlib.Core.Path.{sym, ◌∙◌}
use borrow.Author.Tests.{le-leb}
use Rattle.table.proofs.Around.{back-starts, back_none, search-at, search-on, search-end}
use Rattle.table.proofs.steps_back.Goals as goal

-- ---- the loop
pub loop-n-init : goal.loop-n-init
loop-n-init c = (omega arith, omega arith, back-starts _ _)

pub returns-then-day-n : goal.returns-then-day-n
returns-then-day-n c = back_none _ _ _ _ c.if-day-n.true c.loop-n.invariant.2

pub returns-then-is_trading_day_in : goal.returns-then-is_trading_day_in
returns-then-is_trading_day_in c =
    search-at _ _ _ c.loop-n-test.true c.loop-n.invariant.2
    (rw (le-leb _ _ c.if-day-n.false) (sym c.is_trading_day_in.ensures ∙ c.if-is_trading_day_in.true))

pub loop-n-preserved : goal.loop-n-preserved
loop-n-preserved c = (
  omega arith,
  omega arith,
  search-on _ _ _ c.loop-n-test.true c.loop-n.invariant.2
      (rw (le-leb _ _ c.if-day-n.false) (sym c.is_trading_day_in.ensures ∙ c.if-is_trading_day_in.false)),
)

-- ---- after the loop
pub returns : goal.returns
returns c = search-end _ _ _ c.loop-n-test.false c.loop-n.invariant.2
