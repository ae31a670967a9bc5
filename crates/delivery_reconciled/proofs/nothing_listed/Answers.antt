-- Nothing is listed, and every place is unused.
use mathlib.Core.Path.{refl}
use Rattle.delivery_reconciled.proofs.nothing_listed.Goals as goal

pub returns : goal.returns
returns c = rw c.unused_places-maturities.ensures refl
