-- The loop keeps: n is at most 200, each of the first n numbers is at most 199, and there are 200 tables. The first and the second hold since the
-- queue is right (`right-count`, `right-number`).
use lib.ListN.{length, get_or}
use mathlib.Core.Path.{◌≡◌}
use Prim.Native.Nat.{ℕ, ◌≤◌, ◌<◌}
use Rattle.compare_rounds.proofs.host.roll_taken.Given as goal

abbrev pub invariant-loop-i : goal.invariant-loop-i
invariant-loop-i l = (l.n ≤ 200) × ((j : ℕ) → j < l.n → get_or l.numbers j 0 ≤ 199) × (length l.tables ≡ 200)
