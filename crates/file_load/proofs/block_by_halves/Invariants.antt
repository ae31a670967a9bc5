-- The loop keeps: the steps still to take, from `block` with the width at the index, lead to `block_by_halves`; block is at most the file's count.
use mathlib.Core.Path.{◌≡◌}
use Prim.Native.Nat.{◌-◌, ◌≤◌}
use lib.ListN.{get_or}
use Rattle.file_blocks.specs.Blocks.{block_count}
use Rattle.file_load.specs.Halves.{begins_by, halved, block_by_halves}
use Rattle.file_load.proofs.Halving.{widths}
use Rattle.file_load.proofs.block_by_halves.Given as goal

abbrev pub invariant-loop-width : goal.invariant-loop-width
invariant-loop-width l =
    (halved (begins_by l.file l.id) (7 - l.width-index) (get_or widths l.width-index 0) l.block ≡ block_by_halves l.file l.id) × (l.block ≤ block_count l.file)
