-- The loop keeps: `sum` is at most 195,075 · i, and `sum` is what the bytes below i and those from 255 to below 255 + i add
-- (`halves-more`). At the end i is 255, and that is all.
use mathlib.Core.Path.{◌≡◌}
use Prim.Native.Nat.{◌+◌, ◌*◌, ◌≤◌}
use Rattle.file_blocks.specs.Blocks.{weighted_sum}
use Rattle.file_blocks.proofs.weighted_sum.Given as goal

abbrev pub invariant-loop-i : goal.invariant-loop-i
invariant-loop-i l = (l.sum ≤ 195075 * l.i) × (l.sum + weighted_sum l.block 255 ≡ weighted_sum l.block l.i + weighted_sum l.block (255 + l.i))
