-- The product of zeros is the definition's; by computing.
use mathlib.Core.Path.{refl}
use Rattle.product.specs.Fields.{zero_product}
use Rattle.product.proofs.zero_product.Goals as goal

pub returns : goal.returns
unfolding zero_product
returns c = refl
