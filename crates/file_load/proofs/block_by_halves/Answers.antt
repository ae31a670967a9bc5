-- The block from which a record with an id is looked for: seven steps of 64, 32, .., 1 blocks, never past the last block.
-- The loop keeps: the steps still to take, from `block` with the width at the index, lead to `block_by_halves`; block is at most the file's count.
use mathlib.Core.Path.{◌≡◌, refl, ◌∙◌, sym}
use Prim.Native.Nat.{◌+◌, ◌-◌}
use native.Mathlib.Omega.{arith}
use Rattle.file_load.specs.Halves.{block_by_halves}
use Rattle.file_load.proofs.Halving.{halved-next, halved-end, half-next, width-most}
use Rattle.file_load.proofs.block_by_halves.Goals as goal

pub loop-width-init : goal.loop-width-init
unfolding block_by_halves
loop-width-init c = (refl, omega arith)

pub step-block-requires : goal.step-block-requires
step-block-requires c = (c.loop-width.invariant.1, width-most c.loop-width.width-index (omega arith))

pub loop-width-preserved : goal.loop-width-preserved
loop-width-preserved c =
    let inv = c.loop-width.invariant in
    let fewer : 7 - (c.loop-width.width-index + 1) ≡ 7 - c.loop-width.width-index - 1 = omega arith in
    (rw (c.step-block.ensures.0, fewer, sym (half-next c.loop-width.width-index (omega arith))) (sym (halved-next _ _ _ _ (omega arith)) ∙ inv.0), c.step-block.ensures.1)

pub returns : goal.returns
returns c = let inv = c.loop-width.invariant in (sym (halved-end _ _ _ _ (omega arith)) ∙ inv.0, inv.1)
