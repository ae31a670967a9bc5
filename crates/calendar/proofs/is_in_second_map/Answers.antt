-- Whether the second map has a day: `is_marked` with that map is the definition.
use Rattle.calendar.specs.Trading.{in_second_map}
use Rattle.calendar.proofs.is_in_second_map.Goals as goal

pub returns : goal.returns
unfolding in_second_map
returns c = c.is_marked.ensures
