-- Question 3, of a lent block: kind, version, index and ten zero bytes, by the four calls' contracts.
use Rattle.file_blocks.specs.Blocks.{header_right}
use Rattle.file_blocks.proofs.block_header_right.Goals as goal

pub returns : goal.returns
unfolding header_right
returns c = simp (
  c.are_zero.ensures,
  c.number_at.ensures.0,
  c.byte_at.ensures,
  c.block_kind_right.ensures,
)
