-- Whether a day is closed: `is_marked` with the first map is the definition.
use Rattle.calendar.specs.Trading.{closed_on}
use Rattle.calendar.proofs.is_closed.Goals as goal

pub returns : goal.returns
unfolding closed_on
returns c = c.is_marked.ensures
