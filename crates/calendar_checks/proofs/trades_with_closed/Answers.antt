-- Question 15: question 6, of the calendar with the day closed. The two calls' contracts, one after the other.
use Rattle.calendar.specs.Trading.{every_week}
use mathlib.Core.Path.{◌∙◌, ap}
use Rattle.calendar_checks.proofs.trades_with_closed.Goals as goal

pub returns : goal.returns
returns c = c.every_week_trades.ensures ∙ ap every_week c.close_day.ensures
