-- The loop keeps: `run` is the count after n days, at most 7, and it came to seven on none of them. A run of seven refutes the question
-- (week-ends); after the last day it is answered yes.
use mathlib.Core.Path.{◌≡◌}
use mathlib.Core.Bool.{true}
use Prim.Native.Nat.{suc, ◌≤◌}
use lib.Dec.{ltb}
use Rattle.questions.specs.Search.{every}
use Rattle.file_intake.specs.Intake.{idle_through}
use Rattle.file_intake.proofs.weeks_go_on.Given as goal

-- ---- what the loop keeps
abbrev pub invariant-loop-n : goal.invariant-loop-n
invariant-loop-n l = (l.run ≡ idle_through l.b l.idle l.n) × (l.run ≤ 7) × (every l.n (λ m. ltb (idle_through l.b l.idle (suc m)) 7) ≡ true)
