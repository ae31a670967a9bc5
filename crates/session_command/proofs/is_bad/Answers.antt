-- The answer is the definition's test of the letter and of whether an O was accepted; by computing.
use mathlib.Core.Path.{refl}
use Rattle.session_command.proofs.is_bad.Goals as goal

pub returns : goal.returns
returns c = refl
