-- The loop keeps `Next`: the window ends with the last eight days of the first j times eight weeks, and a yes so far carries
-- the runs to the end of these weeks. A turn is `next-weeks`; a no claims nothing.
use Rattle.calendar_words.proofs.Windows.{Next}
use Rattle.calendar.specs.Trading.{calendar_with}
use Rattle.calendar_checks.proofs.year_trades.Given as goal

abbrev pub invariant-loop-j : goal.invariant-loop-j
invariant-loop-j l = Next (calendar_with l.cover l.closed) l.k l.j l.window
