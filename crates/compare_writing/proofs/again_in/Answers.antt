-- `again_in` is shown to hand over records within their buffer, and to keep the
-- lengths of both: the test before has said that the records fit. By arithmetic.
use lib.Seq.{length-take-le}
use mathlib.Core.Path.{sym}
use native.Mathlib.Omega.{arith}
use Rattle.compare_writing.proofs.again_in.Goals as goal

pub slice_bounds-write-end-2 : goal.slice_bounds-write-end-2
slice_bounds-write-end-2 c = sym (length-take-le _ _ (omega arith))
