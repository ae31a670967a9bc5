-- Another line has no letter, no id and no day; by computing.
use mathlib.Core.Path.{refl}
use Rattle.session_lines.proofs.other_line.Goals as goal

pub returns : goal.returns
returns c = refl
