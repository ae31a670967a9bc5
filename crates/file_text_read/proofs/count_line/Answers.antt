-- All stays but the number of lines.
use mathlib.Core.Path.{refl}
use Rattle.file_text_read.specs.Lists.{line_told}
use Rattle.file_text_read.proofs.count_line.Goals as goal

pub returns : goal.returns
unfolding line_told
returns c = rw c.next_line.ensures refl
