-- The calendar with a day closed on which payments and deliveries run: each of the two maps is what its call of `close_day` ensures.
use mathlib.Core.Path.{refl}
use Rattle.calendar.specs.Trading.{close_day}
use Rattle.file_text_read.specs.Lists.{close_exchange_day}
use Rattle.file_text_read.proofs.close_exchange_day.Goals as goal

pub returns : goal.returns
unfolding close_exchange_day close_day
returns c = rw (c.close_day-second.ensures, c.close_day-first.ensures) refl
