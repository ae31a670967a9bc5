-- Question 5, of a calendar: its cover and maps are lent, and what `maps_are_clean` ensures is the answer.
use Rattle.calendar_checks.proofs.is_clean.Goals as goal

pub returns : goal.returns
returns c = c.maps_are_clean.ensures
