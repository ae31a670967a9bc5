-- The last trading day of an anchor and the steps back to it: it depends on the first map alone (`last-day-second`), so the answer on the lent map is
-- the calendar's.
use Rattle.expiry.proofs.SecondMap.{last-day-second}
use Rattle.expiry.specs.LastDays.{stepped_to}
use mathlib.Core.Path.{◌∙◌, ap}
use mathlib.Core.List.{[]}
use Rattle.expiry.proofs.last_day.Goals as goal

pub returns : goal.returns
returns c = c.last_day_in.ensures ∙ ap (stepped_to _) (last-day-second _ [] _)
