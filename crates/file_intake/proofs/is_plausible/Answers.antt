-- Whether the numbers of a state are within their bounds: the code is the definition `plausible`, so it holds by computing.
use mathlib.Core.Path.{refl}
use Rattle.file_intake.specs.Intake.{plausible}
use Rattle.file_intake.proofs.is_plausible.Goals as goal

pub returns : goal.returns
unfolding plausible
returns c = refl
