-- The days so far are no trading days; a trading day among the seven is found.
use mathlib.Core.Path.{◌≡◌}
use mathlib.Core.Bool.{false}
use Rattle.calendar.specs.Trading.{calendar_with, some_trades}
use Rattle.file_text_faults.proofs.some_trades.Given as goal

abbrev pub invariant-loop-i : goal.invariant-loop-i
invariant-loop-i l = some_trades (calendar_with l.cover l.closed) l.day l.i ≡ false
