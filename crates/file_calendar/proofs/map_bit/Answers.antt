-- Whether day n has its bit in a map of a calendar block: the definition `map_bit`, of the byte that `byte_at` answers.
-- That the sums, the shift and the casts fit is found by search.
use Rattle.file_calendar.specs.Calendars.{map_bit}
use Rattle.file_calendar.proofs.map_bit.Goals as goal

pub returns : goal.returns
unfolding map_bit
returns c = simp (c.byte_at-byte.ensures, c.from.ensures, c.from-2.ensures)
