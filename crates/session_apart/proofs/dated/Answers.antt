-- The same rest on the date, with refusal 0 and counts 0 and 0; by computing.
use mathlib.Core.Path.{refl}
use Rattle.session_apart.proofs.dated.Goals as goal

pub returns : goal.returns
returns c = refl
