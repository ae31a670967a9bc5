-- Question 5 of a calendar block: its days are clean and bytes 108 to 509 are zero. The two calls' answers are the two parts of `block_clean`.
use Rattle.file_calendar.specs.Calendars.{block_clean}
use Rattle.file_calendar.proofs.block_clean.Goals as goal

pub returns : goal.returns
unfolding block_clean
returns c = simp (c.are_zero.ensures, c.days_clean.ensures)
