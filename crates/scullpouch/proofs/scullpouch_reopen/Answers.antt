-- Opens a closed day of a flat table again: what `outcome_on` says of the library's reopen on the table that `unflat_table` gives.
use mathlib.Core.Path.{◌∙◌, ap}
use Rattle.c_types.specs.Flat.{outcome_on}
use Rattle.scullpouch.proofs.scullpouch_reopen.Goals as goal

pub returns : goal.returns
returns c = c.outcome_on.ensures ∙ ap (outcome_on _) (rw c.unflat_table-table.ensures at c.reopen.ensures)
