-- `print_verdict` is shown to hand over numbers that the list has: their count is what `within`
-- gives, at most the list's length. The other needs are found by search, one for each verdict.
use mathlib.Core.Path.{sym}
use lib.Seq.{length-take-le}
use Rattle.compare_vendor.proofs.print_verdict.Goals as goal

-- ---- the part of the list that is judged
pub slice_bounds-judge-end : goal.slice_bounds-judge-end
slice_bounds-judge-end c = sym (length-take-le _ _ c.within-n.ensures)
