-- `hand_over` is shown to cut 511 bytes out of a block, which has 512 by what is required; nothing is promised of what it gives.
use mathlib.Core.Path.{sym}
use native.Mathlib.Omega.{arith}
use lib.Seq.{length-take-le}
use Rattle.compare_files.proofs.blockwise.hand_over.Goals as goal

pub slice_bounds-take-end : goal.slice_bounds-take-end
slice_bounds-take-end c =
    let block = c.args.block.now in
    sym (length-take-le 511 block (omega (arith, c.requires)))
