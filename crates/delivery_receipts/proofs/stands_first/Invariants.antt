-- The loop keeps: no row before `j` has the id of row `i`.
use mathlib.Core.Path.{◌≡◌}
use mathlib.Core.Bool.{true, not}
use Rattle.questions.specs.Search.{every}
use Rattle.file_load.specs.Products.{same_id}
use Rattle.delivery_products.specs.IdList.{id_in}
use Rattle.delivery_receipts.proofs.stands_first.Given as goal

-- ---- what the loop keeps
abbrev pub invariant-loop-j : goal.invariant-loop-j
invariant-loop-j l = every l.j (λ k. not (same_id (id_in l.ids k) (id_in l.ids l.i))) ≡ true
