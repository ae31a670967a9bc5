-- The loop keeps `Stepping`: the latest trading day before `day` is the latest before the anchor, and day + back is the anchor.
use Rattle.calendar.specs.Trading.{calendar_with, trading_day}
use Rattle.expiry.proofs.Stepping.{Stepping}
use Rattle.expiry.proofs.trading_day_before_in.Given as goal

abbrev pub invariant-loop-day : goal.invariant-loop-day
invariant-loop-day l = Stepping (trading_day (calendar_with l.cover l.closed)) l.anchor l.day l.back
