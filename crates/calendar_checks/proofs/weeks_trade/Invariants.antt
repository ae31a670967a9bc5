-- The loop keeps `Passed`: the runs that begin before `first` hold a trading day, `day` lies in the week from `first` on, and the days of that week
-- after it do not trade. A turn takes `first` past a trading day, or `day` one back (`passed-step`).
use Rattle.calendar.proofs.Weeks.{Passed}
use Rattle.calendar.specs.Trading.{calendar_with, trading_day}
use Prim.Native.Nat.{◌+◌, ◌-◌, ◌*◌}
use Rattle.calendar_checks.proofs.weeks_trade.Given as goal

abbrev pub invariant-loop-first : goal.invariant-loop-first
invariant-loop-first l = Passed (trading_day (calendar_with l.cover l.closed)) l.from l.to l.first l.day

abbrev pub decreases-loop-first : goal.decreases-loop-first
decreases-loop-first l = 8 * (l.to - l.first) + (l.day - l.first)
