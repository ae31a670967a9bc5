-- The loop keeps: `run` is the count after the first n days of the year and at most 7. One day more is `through-more`.
use mathlib.Core.Path.{◌≡◌}
use Prim.Native.Nat.{◌≤◌}
use Rattle.file_intake.specs.Intake.{idle_through}
use Rattle.file_intake.proofs.idle_after.Given as goal

-- ---- what the loop keeps
abbrev pub invariant-loop-n : goal.invariant-loop-n
invariant-loop-n l = (l.run ≡ idle_through l.b l.idle l.n) × (l.run ≤ 7)
