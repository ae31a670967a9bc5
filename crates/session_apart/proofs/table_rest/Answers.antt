-- The rest has the parts of the table but for the two maps of its calendar; by computing.
use mathlib.Core.Path.{refl}
use Rattle.session_apart.proofs.table_rest.Goals as goal

pub returns : goal.returns
returns c = refl
