-- `draft_lines` is shown to stay within its buffers and to keep their lengths:
-- each cut is at a length that the test before has said to fit. By arithmetic.
use lib.Seq.{length-take-le}
use mathlib.Core.Path.{sym}
use native.Mathlib.Omega.{arith}
use Rattle.compare_writing.proofs.draft_lines.Goals as goal

pub slice_bounds-write-end : goal.slice_bounds-write-end
slice_bounds-write-end c = sym (length-take-le _ _ (omega arith))

pub slice_bounds-file_lines-end-2 : goal.slice_bounds-file_lines-end-2
slice_bounds-file_lines-end-2 c = sym (length-take-le _ _ (omega arith))
