-- The n-th exchange day after a day: the calendar's cover and maps are lent, and what `nth_exchange_day_in` ensures is the answer.
use Rattle.calendar.proofs.nth_exchange_day.Goals as goal

pub returns : goal.returns
returns c = c.nth_exchange_day_in.ensures
