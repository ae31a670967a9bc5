-- `replay` is shown to lend parts that lie within the file, the calls and the answers: what was read fits the buffer,
-- and the two lengths are at most 1,024 by what is required. Each need but the parts' lengths is found by search.
use Rattle.compare_tables.proofs.Prefix.{prefix-length}
use native.Mathlib.Omega.{arith}
use Rattle.compare_tables.proofs.histories.replay.Goals as goal

-- ---- the parts of the calls and of the answers that are lent
pub slice_bounds-run-end-2 : goal.slice_bounds-run-end-2
slice_bounds-run-end-2 c = prefix-length _ _ (omega arith)

pub slice_bounds-run-end-3 : goal.slice_bounds-run-end-3
slice_bounds-run-end-3 c = prefix-length _ _ (omega arith)
