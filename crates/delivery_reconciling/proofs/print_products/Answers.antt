-- After the heading come the lines of all products.
use native.Mathlib.Omega.{arith}
use Rattle.delivery_reconciling.proofs.ReconcileRuns.{products-out}
use Rattle.delivery_reconciling.proofs.print_products.Goals as goal

pub returns-clause-products_out : goal.returns-clause-products_out
returns-clause-products_out c =
    let x = c.print_places.ensures in
    λ g few room h. products-out _ _ _ _ _ _ g _ _ _ few (omega (arith, few, room)) _ h _ (x.places_out g.size)
