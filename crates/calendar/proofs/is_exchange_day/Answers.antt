-- Whether a day is an exchange day: the calendar's cover and maps are lent, and what `is_exchange_day_in` ensures is the answer.
use Rattle.calendar.proofs.is_exchange_day.Goals as goal

pub returns : goal.returns
returns c = c.is_exchange_day_in.ensures
