-- The loop keeps: i is at most 4, and the first i bytes pass. A byte that fails fails the id (`every-not`), one that passes is one more
-- (`every_more`); at the end i is 4.
use Prim.Native.Nat.{◌≤◌}
use mathlib.Core.Path.{◌≡◌}
use mathlib.Core.Bool.{true}
use lib.ListN.{get_or}
use lib.Dec.{ltb}
use Rattle.questions.specs.Search.{every}
use Rattle.product.specs.Fields.{id_byte}
use Rattle.product.proofs.id_of.Given as goal

abbrev pub invariant-loop-i : goal.invariant-loop-i
invariant-loop-i l = (l.i ≤ 4) × (every l.i (λ k. id_byte (ltb k l.count) (get_or l.id k 0)) ≡ true)
