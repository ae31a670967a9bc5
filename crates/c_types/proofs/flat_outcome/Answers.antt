-- `flat_outcome` gives an outcome with its table flat: `flat_table` says what that is, the other fields are the same.
use mathlib.Core.Path.{refl}
use Rattle.c_types.proofs.flat_outcome.Goals as goal

pub returns : goal.returns
returns c = rw c.flat_table-table.ensures refl
