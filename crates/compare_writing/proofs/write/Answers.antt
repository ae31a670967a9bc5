-- `write` is shown to lend the first bytes of the buffer only where it has them, which is the test before, and to keep its length. By arithmetic.
use lib.Seq.{length-take-le}
use mathlib.Core.Path.{sym}
use native.Mathlib.Omega.{arith}
use Rattle.compare_writing.proofs.write.Goals as goal

pub slice_bounds-write-end-2 : goal.slice_bounds-write-end-2
slice_bounds-write-end-2 c = sym (length-take-le _ _ (omega arith))
