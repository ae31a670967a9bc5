-- `row_at` gives row i of five lists: each field is what `list_number` or `byte_at` reads at i, as the definition has it.
use mathlib.Core.Path.{refl}
use Rattle.delivery_differences.proofs.row_at.Goals as goal

pub returns : goal.returns
returns c = rw (
  c.list_number-4.ensures,
  c.list_number-3.ensures,
  c.byte_at.ensures,
  c.list_number-2.ensures,
  c.list_number.ensures,
) refl
