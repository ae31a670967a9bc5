-- The loop keeps (`Replaying`): the calls from i on, run on table t, end as all calls run on the first table; the answers of the calls before i with
-- those still to come are all answers; the buffer begins with the first i and is else as it was.
use lib.ListN.{length}
use Prim.Native.Nat.{◌/◌, ◌%◌, ◌≤◌}
use mathlib.Core.Path.{◌≡◌}
use Rattle.history_replay.proofs.ReplayBuffer.{Replaying}
use Rattle.history_replay.proofs.run_calls.Given as goal

-- ---- what the loop keeps
abbrev pub invariant-loop-i : goal.invariant-loop-i
invariant-loop-i l =
    (length l.calls % 4 ≡ 0) × (length l.calls ≤ length l.initial.buffer) × Replaying l.calls l.initial.buffer l.initial.t l.buffer l.t l.i × (l.i ≤ length l.calls / 4)
