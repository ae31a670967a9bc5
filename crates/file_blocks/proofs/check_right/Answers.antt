-- Whether a block's check is right: the two calls' contracts are the definition's sum and number.
use Rattle.file_blocks.specs.Blocks.{check_right}
use Rattle.file_blocks.proofs.check_right.Goals as goal

pub returns : goal.returns
unfolding check_right
returns c = simp (c.number_at.ensures.0, c.weighted_sum.ensures)
