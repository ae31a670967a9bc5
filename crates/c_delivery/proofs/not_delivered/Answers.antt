-- The flat form of the table of zeros.
use mathlib.Core.Path.{refl}
use Rattle.c_delivery.proofs.not_delivered.Goals as goal

pub returns : goal.returns
returns c = rw (c.flat_table-table.ensures, c.zero_table.ensures) refl
