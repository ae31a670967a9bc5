-- The line with no bytes is the definition's; by computing.
use Rattle.session_lines.specs.CommandLines.{empty_line}
use mathlib.Core.Path.{refl}
use Rattle.session_lines.proofs.empty_line.Goals as goal

pub returns : goal.returns
unfolding empty_line
returns c = refl
