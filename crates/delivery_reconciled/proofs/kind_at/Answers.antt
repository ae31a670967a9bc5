-- The kind of the product there.
use mathlib.Core.Path.{ap}
use Rattle.product.specs.declared.Product.{Product}
use Rattle.delivery_reconciled.proofs.kind_at.Goals as goal

pub returns : goal.returns
returns c = ap (λ (x : Product). x.kind) c.product_at-p.ensures
