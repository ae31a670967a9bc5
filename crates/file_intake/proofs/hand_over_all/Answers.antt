-- The state once the blocks of a file are announced and handed over in order.
-- The loop keeps: `state` is the state after the first k blocks. It starts by `starts`, and a block more keeps it by `goes_on`.
use mathlib.Core.Path.{◌≡◌}
use native.Mathlib.Omega.{arith}
use Rattle.file_blocks.specs.Blocks.{block_count}
use Rattle.file_load.proofs.LoadAnswers.{length_most}
use Rattle.file_intake.proofs.BlockByBlock.{starts, goes_on}
use Rattle.file_intake.proofs.hand_over_all.Goals as goal

pub overflow_cast-n : goal.overflow_cast-n
overflow_cast-n c = omega (arith, length_most _ c.requires)

pub loop-k-init : goal.loop-k-init
loop-k-init c = starts _ c.requires _ c.announce-first.ensures

pub loop-k-preserved : goal.loop-k-preserved
loop-k-preserved c =
    goes_on _ c.requires _ _ _ (omega arith) c.loop-k.invariant c.hand_over-state.ensures

pub returns : goal.returns
returns c =
    let e : c.loop-k.k ≡ block_count c.args.file.now = omega arith in
    rw e at c.loop-k.invariant
