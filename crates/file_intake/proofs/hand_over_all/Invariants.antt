-- The loop keeps: `state` is the state after the first k blocks. It starts by `starts`, and a block more keeps it by `goes_on`.
use mathlib.Core.Path.{◌≡◌}
use Rattle.file_intake.specs.Intake.{state_after}
use Rattle.file_intake.proofs.hand_over_all.Given as goal

abbrev pub invariant-loop-k : goal.invariant-loop-k
invariant-loop-k l = l.state ≡ state_after l.file l.n l.k
