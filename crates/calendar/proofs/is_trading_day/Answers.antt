-- Whether a day is a trading day: it depends on the first map alone, so the answer with an empty second map is the calendar's.
use Rattle.calendar.specs.Trading.{trading_day, closed_on}
use Rattle.calendar.proofs.is_trading_day.Goals as goal

pub returns : goal.returns
unfolding trading_day closed_on
returns c = c.is_trading_day_in.ensures
