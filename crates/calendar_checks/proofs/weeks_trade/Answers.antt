-- Question 6, of the runs in a part of the cover. The loop keeps `Passed`: the runs that begin before `first` hold a trading day, `day` lies in the
-- week from `first` on, and the days of that week after it do not trade. A turn takes `first` past a trading day, or `day` one back (`passed-step`).
use Rattle.calendar.proofs.Weeks.{passed_start, passed-step, passed-less, passed-fails, passed-ends, idle-first, not-idle-first}
use Rattle.calendar.specs.Trading.{calendar_with, cover_start, cover_end, in_cover, closed_on, trading_day}
use Rattle.calendar.specs.Bits.{bit_at}
use Rattle.questions.proofs.Bools.{and_both}
use borrow.Author.Tests.{lt-ltb, le-leb}
use native.Mathlib.Omega.{arith}
use mathlib.Core.Path.{◌≡◌, sym, ◌∙◌}
use mathlib.Core.Bool.{true}
use Rattle.calendar_checks.proofs.weeks_trade.Goals as goal
use Rattle.calendar_checks.proofs.weeks_trade.Goals.{After-trades_on-trades}

-- ---- the day that a turn looks at
-- the day is in the cover
covered : (c : After-trades_on-trades) → in_cover c.args.cover c.loop-first.day ≡ true
unfolding in_cover
covered c =
    let h = c.loop-first.invariant in
    let v = c.args.cover in
    let d = c.loop-first.day in
    and_both (le-leb (cover_start v) d (omega (arith, c.requires, h.from, h.near)))
    (lt-ltb d (cover_end v) (omega (arith, c.requires, h.within, c.loop-first-test.true)))

-- the code's test is whether the day trades
trading : (c : After-trades_on-trades)
    → c.trades_on-trades.result ≡ trading_day (calendar_with c.args.cover
    c.args.closed.now) c.loop-first.day
unfolding trading_day closed_on bit_at
trading c =
    simp (c.trades_on-trades.ensures, c.byte_of-byte.ensures, c.slot_of-slot.ensures, covered c)

-- ---- the loop begins with the first run
pub overflow_add-day : goal.overflow_add-day
overflow_add-day c = omega (arith, c.requires)

pub loop-first-init : goal.loop-first-init
loop-first-init c = passed_start _ _ _ c.requires.1

pub overflow_add-first : goal.overflow_add-first
overflow_add-first c = omega (arith, c.loop-first.invariant.to, c.requires)

-- ---- a run without a trading day
pub returns-then-trades-day : goal.returns-then-trades-day
returns-then-trades-day c =
    let w = idle-first _ _ _ c.if-trades-day.true in
    sym (passed-fails _ _ _ _ _ c.loop-first.invariant c.loop-first-test.true
    (sym (trading (goal.at.returns-then-trades-day c).After-trades_on-trades) ∙ w.0) w.1)

pub next_first-first-requires : goal.next_first-first-requires
next_first-first-requires c = omega (arith, c.loop-first.invariant.within, c.loop-first-test.true, c.requires)

pub next_day-day-requires : goal.next_day-day-requires
next_day-day-requires c = omega (arith, c.loop-first.invariant.within, c.loop-first-test.true, c.requires)

-- ---- the next turn
pub loop-first-smaller : goal.loop-first-smaller
loop-first-smaller c =
    rw (c.next_first-first.ensures, c.next_day-day.ensures)
    (passed-less _ _ _ _ _ c.loop-first.invariant c.loop-first-test.true c.trades_on-trades.result
    (not-idle-first _ _ _ c.if-trades-day.false))

pub loop-first-preserved : goal.loop-first-preserved
loop-first-preserved c =
    rw (c.next_first-first.ensures, c.next_day-day.ensures)
    (passed-step _ _ _ _ _ c.loop-first.invariant c.loop-first-test.true _
    (trading (goal.at.loop-first-preserved c).After-trades_on-trades) (not-idle-first _ _ _ c.if-trades-day.false))

-- ---- after the loop: every run has passed
pub returns : goal.returns
returns c = sym (passed-ends _ _ _ _ _ c.loop-first.invariant (omega arith))
