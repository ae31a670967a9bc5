-- The loop keeps: after i turns, d is the i-th exchange day after the day. A turn steps by `nth-more`.
use Rattle.calendar.specs.Trading.{calendar_of_maps, nth_exchange_day}
use mathlib.Core.Path.{◌≡◌}
use Rattle.calendar.proofs.nth_exchange_day_in.Given as goal

abbrev pub invariant-loop : goal.invariant-loop
invariant-loop l = l.d ≡ nth_exchange_day (calendar_of_maps l.cover l.closed l.exchange) l.counter l.day
