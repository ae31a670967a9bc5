-- Both tests, one after the other.
use mathlib.Core.Path.{refl}
use Rattle.delivery_reading.proofs.goes_on.Goals as goal

pub returns : goal.returns
returns c = rw c.reads_left.ensures refl
