-- A measure on a flat table: what `measured_on` says of the library's measure on the table that `unflat_table` gives.
use mathlib.Core.Path.{◌∙◌, ap}
use Rattle.c_types.specs.Flat.{measured_on}
use Rattle.scullpouch.proofs.scullpouch_measure.Goals as goal

pub returns : goal.returns
returns c = c.measured_on.ensures ∙ ap (measured_on _) (rw c.unflat_table-table.ensures at c.measure.ensures)
