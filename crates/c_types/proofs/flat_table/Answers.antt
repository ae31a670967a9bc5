-- `flat_table` gives a table with its product flat: `flat_product` says what that is, the other fields are the same.
use mathlib.Core.Path.{refl}
use Rattle.c_types.proofs.flat_table.Goals as goal

pub returns : goal.returns
returns c = rw c.flat_product-product.ensures refl
