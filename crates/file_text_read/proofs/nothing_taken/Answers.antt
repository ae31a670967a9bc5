-- What is said before the first line: the calendar and the faults are what `zero_calendar` and `no_faults` ensure.
use mathlib.Core.Path.{refl}
use Rattle.file_text_read.specs.Lists.{nothing_taken}
use Rattle.file_text_read.proofs.nothing_taken.Goals as goal

pub returns : goal.returns
unfolding nothing_taken
returns c = rw (c.zero_calendar-calendar.ensures, c.no_faults-faults.ensures) refl
