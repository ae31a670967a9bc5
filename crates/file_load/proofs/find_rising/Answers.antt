-- Question 9 from the block that `block_by_halves` gives: what `find_from` ensures, of that block, which is at most the file's count of blocks.
use Rattle.file_load.proofs.find_rising.Goals as goal

pub find_from-requires : goal.find_from-requires
find_from-requires c = c.block_by_halves.ensures.1

pub returns : goal.returns
returns c = rw c.block_by_halves.ensures.0 at c.find_from.ensures
