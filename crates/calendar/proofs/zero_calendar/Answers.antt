-- A calendar of zeros: `open_calendar` with a cover of zeros, as the definition has it.
use Rattle.calendar.specs.Trading.{zero_calendar}
use Rattle.calendar.proofs.zero_calendar.Goals as goal

pub returns : goal.returns
unfolding zero_calendar
returns c = c.open_calendar.ensures
