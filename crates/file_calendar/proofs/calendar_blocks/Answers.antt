-- The calendar of 1 to 16 calendar blocks: the first block's year, the count of years and the two maps.
-- Each field is what its call ensures; that the numbers fit and that `maps_from` may be called is found by search.
use Rattle.file_calendar.proofs.calendar_blocks.Goals as goal

pub returns : goal.returns
returns c = cc
