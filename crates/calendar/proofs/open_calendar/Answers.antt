-- A cover with nothing in its maps. By computing.
use mathlib.Core.Path.{refl}
use Rattle.calendar.specs.Trading.{open_calendar}
use Rattle.calendar.proofs.open_calendar.Goals as goal

pub returns : goal.returns
unfolding open_calendar
returns c = refl
