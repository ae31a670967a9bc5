-- `unflat_table` gives the table that a flat one stands for: `unflat_product` says what its product is, the other fields are the same.
use mathlib.Core.Path.{refl}
use Rattle.c_types.proofs.unflat_table.Goals as goal

pub returns : goal.returns
returns c = rw c.unflat_product-product.ensures refl
