-- The buffer afterwards has the first `blocks` blocks of the file, and the bytes after them remain.
-- The loop keeps: the first k blocks stand in the buffer and the rest of it is as it was (`Put`). A block more is `put-more`.
use mathlib.Core.Path.{◌≡◌}
use native.Mathlib.Omega.{arith}
use Rattle.file_write.proofs.Buffers.{put-none, put-long, put-more}
use Rattle.file_write.proofs.put_blocks.Goals as goal

pub loop-k-init : goal.loop-k-init
loop-k-init c = put-none _ _ _

-- ---- one block more
pub block_for-block-requires : goal.block_for-block-requires
block_for-block-requires c = (omega arith, omega arith, omega arith)

pub put_block-requires : goal.put_block-requires
put_block-requires c = omega (arith, put-long _ _ _ _ _ (omega arith) c.loop-k.invariant)

pub loop-k-preserved : goal.loop-k-preserved
loop-k-preserved c =
    put-more _ _ _ _ _ _ _ (omega arith) c.loop-k.invariant c.block_for-block.ensures c.put_block.ensures

-- ---- after the last block
pub shape_of-buffer : goal.shape_of-buffer
shape_of-buffer c = put-long _ _ _ _ _ (omega arith) c.loop-k.invariant

pub returns : goal.returns
returns c =
    let e : c.loop-k.k ≡ c.args.blocks = omega arith in
    rw e at c.loop-k.invariant.is
