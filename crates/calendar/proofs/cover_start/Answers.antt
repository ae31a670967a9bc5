-- 1 January of the cover's first year, at most 36,525: what `year_start` ensures is the definition.
use Rattle.calendar.specs.Trading.{cover_start}
use Rattle.calendar.proofs.cover_start.Goals as goal

pub returns : goal.returns
unfolding cover_start
returns c = c.year_start.ensures
