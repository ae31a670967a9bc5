-- The place of a day's bit in the maps: 368 for each year since the cover's first, and the day's number in its year, as the definition sums them.
-- The sizes are found by search.
use Rattle.calendar.specs.Trading.{slot_of}
use Rattle.calendar.proofs.slot_of.Goals as goal

pub returns : goal.returns
unfolding slot_of
returns c = simp (c.day_in_year.ensures, c.saturating_sub-year.ensures, c.year_of.ensures)
