-- The outcome is the same table with the calendar and the date, by computing; the fifteen places follow from the array's
-- length.
use mathlib.Core.Path.{refl}
use Rattle.table.proofs.kept.Goals as goal

pub returns : goal.returns
returns c = (refl, c.well_formed.0.1.1.1.1.1.0.1.0.1)
