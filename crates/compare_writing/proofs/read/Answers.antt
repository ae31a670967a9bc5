-- `read` is shown to read within the buffer, whose length it keeps: the test before has said that it has as many bytes. By arithmetic.
use lib.Seq.{length-take-le}
use mathlib.Core.Path.{sym}
use native.Mathlib.Omega.{arith}
use Rattle.compare_writing.proofs.read.Goals as goal

pub slice_bounds-read_full-end-2 : goal.slice_bounds-read_full-end-2
slice_bounds-read_full-end-2 c = sym (length-take-le _ _ (omega arith))
