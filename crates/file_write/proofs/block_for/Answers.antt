-- A block of the file: its 510 bytes and their check.
-- The loop keeps: of the 512 bytes of `body` those before j are the block's and the others zero (`Filled`).
-- With the check that `checked` writes after them they are the block of the definition (block_made).
use mathlib.Core.Path.{◌∙◌}
use native.Mathlib.Omega.{arith}
use Rattle.file_calendar.proofs.Filling.{filled_none, filled_more}
use Rattle.file_write.proofs.Buffers.{block_made}
use Rattle.file_write.proofs.block_for.Goals as goal

pub loop-j-init : goal.loop-j-init
loop-j-init c = filled_none _ 512

pub block_byte-requires : goal.block_byte-requires
block_byte-requires c = (omega arith, omega arith, omega arith, omega arith)

pub loop-j-preserved : goal.loop-j-preserved
loop-j-preserved c = filled_more _ 512 _ _ _ (omega arith) c.block_byte.ensures c.loop-j.invariant

pub returns : goal.returns
returns c = c.checked.ensures ∙ block_made _ _ _ (omega arith) c.loop-j.invariant
