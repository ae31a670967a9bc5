-- `flat_product` gives a product with its kind as a number: `kind_number` says which, the other fields are the same.
use mathlib.Core.Path.{refl}
use Rattle.c_types.proofs.flat_product.Goals as goal

pub returns : goal.returns
returns c = rw c.kind_number-kind.ensures refl
