-- `no_product` gives a refusal's number with the product of zeros, which is what `zero_product` says.
use Rattle.delivery_products.proofs.no_product.Goals as goal

pub returns : goal.returns
returns c = rw c.zero_product-product.ensures
