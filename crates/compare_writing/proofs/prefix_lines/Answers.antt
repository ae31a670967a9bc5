-- `prefix_lines` is shown to cut the first n bytes out of a buffer only where it has them, which is the test before. By arithmetic.
use lib.Seq.{length-take-le}
use mathlib.Core.Path.{sym}
use native.Mathlib.Omega.{arith}
use Rattle.compare_writing.proofs.prefix_lines.Goals as goal

pub slice_bounds-file_lines-end : goal.slice_bounds-file_lines-end
slice_bounds-file_lines-end c = sym (length-take-le _ _ (omega arith))
