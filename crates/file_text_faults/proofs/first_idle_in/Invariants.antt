-- A search from the cover's first day on: no run that begins before the day looked at is without trading.
use mathlib.Core.Path.{◌≡◌}
use mathlib.Core.Bool.{not}
use Prim.Native.Nat.{◌-◌}
use Rattle.questions.specs.Search.{first_from}
use Rattle.calendar.specs.Trading.{calendar_with, some_trades}
use Rattle.file_text_faults.specs.Faults.{first_idle}
use Rattle.file_text_faults.proofs.first_idle_in.Given as goal

abbrev pub invariant-loop-day : goal.invariant-loop-day
invariant-loop-day l =
    first_from (λ d. not (some_trades (calendar_with l.cover l.closed) d 7)) 36525 (l.day-end - l.day) l.day ≡ first_idle (calendar_with l.cover l.closed)
