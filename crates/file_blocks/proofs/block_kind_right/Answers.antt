-- Whether a block is of a kind, with a year or a count in its range: the two calls' contracts make the kind's byte and the number the definition's.
use Rattle.file_blocks.specs.Blocks.{block_kind_right}
use Rattle.file_blocks.proofs.block_kind_right.Goals as goal

pub returns : goal.returns
unfolding block_kind_right
returns c = simp (c.number_at-n.ensures.0, c.byte_at-kind.ensures)
