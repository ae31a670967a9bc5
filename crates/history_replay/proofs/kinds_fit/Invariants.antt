-- The loop keeps: k is at most the number of calls, and the calls before k have such a kind. A call with another ends it with no (`kinds-no`); after
-- the last one all have (`kinds-yes`).
use lib.ListN.{length}
use Prim.Native.Nat.{◌/◌, ◌≤◌}
use mathlib.Core.Path.{◌≡◌}
use mathlib.Core.Bool.{true}
use Rattle.questions.specs.Search.{every}
use Rattle.history_replay.proofs.ReplayBuffer.{kind_at}
use Rattle.history_replay.proofs.kinds_fit.Given as goal

-- ---- what the loop keeps
abbrev pub invariant-loop-k : goal.invariant-loop-k
invariant-loop-k l = (l.k ≤ length l.calls / 4) × (every l.k (kind_at l.calls) ≡ true)
