-- Question 1: the length is a multiple of 512 from 1,024 to 65,536. By computing.
use mathlib.Core.Path.{refl}
use Rattle.file_blocks.specs.Blocks.{length_right}
use Rattle.file_blocks.proofs.length_right.Goals as goal

pub returns : goal.returns
unfolding length_right
returns c = refl
