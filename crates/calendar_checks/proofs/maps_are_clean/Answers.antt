-- Question 5, of both maps: the first is clean and the second has only days of the first. By `both-clean` the definition's one test of each slot is
-- these two tests of all slots.
use Rattle.calendar_checks.proofs.Maps.{both-clean}
use mathlib.Core.Bool.{◌&&◌}
use mathlib.Core.Path.{◌∙◌, ap₂}
use Rattle.calendar_checks.proofs.maps_are_clean.Goals as goal

pub returns : goal.returns
returns c = ap₂ ◌&&◌ c.first_is_clean.ensures c.is_within.ensures ∙ both-clean _
