-- `read_calls` gives a list of 1,024 numbers and is shown to write within it. The loop keeps the list's length, which a write keeps.
use mathlib.Core.Path.{◌≡◌}
use lib.ListN.{length}
use Rattle.compare_tables.proofs.histories.read_calls.Given as goal

abbrev pub invariant-loop-i : goal.invariant-loop-i
invariant-loop-i l = length l.calls ≡ 1024
