-- Both tests, one after the other.
use mathlib.Core.Path.{refl}
use Rattle.reconcile_rows.proofs.stops.Goals as goal

pub returns : goal.returns
returns c = rw c.has_failed.ensures refl
