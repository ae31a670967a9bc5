-- The library's answer, its product flat.
use mathlib.Core.Path.{ap}
use Rattle.c_delivery.specs.Delivered.{product_reply}
use Rattle.c_delivery.proofs.product_at.Goals as goal

pub returns : goal.returns
returns c = rw c.flat_product-product.ensures (ap product_reply c.product_in-there.ensures)
