-- The sum of each of the first 510 bytes times its place from 1. The loop keeps: `sum` is at most 195,075 · i, and `sum` is what the bytes below i and
-- those from 255 to below 255 + i add (`halves-more`). At the end i is 255, and that is all.
use mathlib.Core.Path.{refl}
use native.Mathlib.Omega.{arith}
use Rattle.file_blocks.specs.Blocks.{weighted_sum}
use Rattle.file_blocks.proofs.Files.{halves-more}
use Rattle.file_blocks.proofs.weighted_sum.Goals as goal

-- ---- the loop begins with no bytes
pub loop-i-init : goal.loop-i-init
unfolding weighted_sum
loop-i-init c = (omega arith, refl)

-- ---- the next turn
pub loop-i-preserved : goal.loop-i-preserved
loop-i-preserved c =
    let l = c.loop-i in (
      omega (arith, c.two_terms-sum.ensures.1),
      halves-more _ _ _ _ l.invariant.1 (rw (c.from-first.ensures, c.from-second.ensures, c.from.ensures, c.from-in-loop-i.ensures) at c.two_terms-sum.ensures.0),
    )
