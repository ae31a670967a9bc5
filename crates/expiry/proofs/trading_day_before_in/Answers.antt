-- The latest trading day before an anchor and the steps back to it; day 0 where there is none. The loop keeps `Stepping`: the latest trading day
-- before `day` is the latest before the anchor, and day + back is the anchor.
use Rattle.expiry.proofs.Stepping.{starts, again, found, none}
use native.Mathlib.Omega.{arith}
use mathlib.Core.Path.{◌≡◌, ◌∙◌, sym}
use Rattle.expiry.proofs.trading_day_before_in.Goals as goal

pub loop-day-init : goal.loop-day-init
loop-day-init c = starts _ _

pub overflow_add-back : goal.overflow_add-back
overflow_add-back c = omega (arith, c.loop-day.invariant.made)

pub returns-then-is_trading_day_in : goal.returns-then-is_trading_day_in
returns-then-is_trading_day_in c = found _ _ _ _ c.loop-day.invariant c.loop-day-test.true
    (sym c.is_trading_day_in.ensures ∙ c.if-is_trading_day_in.true)

pub loop-day-preserved : goal.loop-day-preserved
loop-day-preserved c = again _ _ _ _ c.loop-day.invariant c.loop-day-test.true
    (sym c.is_trading_day_in.ensures ∙ c.if-is_trading_day_in.false)

pub returns : goal.returns
returns c =
    let z : c.loop-day.day ≡ 0 = omega (arith, c.loop-day-test.false) in
    rw z at (none _ _ _ _ c.loop-day.invariant c.loop-day-test.false)
