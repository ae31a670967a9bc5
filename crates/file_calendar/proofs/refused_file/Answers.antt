-- The refusal of a file, with no calendar: the calendar is what `zero_calendar` ensures.
use Rattle.file_calendar.proofs.refused_file.Goals as goal

pub returns : goal.returns
returns c = rw c.zero_calendar-calendar.ensures
