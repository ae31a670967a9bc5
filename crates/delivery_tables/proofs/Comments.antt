-- A notice that is refused on a product's table, or is no call of it, may be made a comment: neither the table nor any other refusal changes.
-- Assumes nothing.
use mathlib.Core.Path.{◌≡◌, refl, ◌∙◌, sym, ap}
use mathlib.Core.Bool.{Bool, true, false, cond}
use mathlib.Core.List.{List, ◌∷◌}
use Prim.Native.Nat.{ℕ}
use Rattle.table.specs.declared.Table.{Table}
use Rattle.history.specs.History.{table_call, table_run}
use Rattle.delivery_notices.specs.Notices.{Notice}
use Rattle.delivery_calls.proofs.RefusedCalls.{refused-same}
use Rattle.delivery_tables.specs.Tables.{concerns, calls_for, no_call, noticed, refusals_for, Comment}
use Rattle.delivery_tables.proofs.NoticesOnTable.{run-first, run-append, refusals-append}

noticed-still : (id : List ℕ) (t : Table) (n : Notice) → (concerns id n ≡ true → (table_call t n.call).refusal ≡ 0 → ⊥) → (noticed id t n).table ≡ t
unfolding noticed
noticed-still id t n h = go (concerns id n) refl
  where
    go : (b : Bool) → concerns id n ≡ b → (cond (concerns id n) (table_call t n.call) (no_call t)).table ≡ t
    go true e = rw e (refused-same t n.call (h e))
    go false e = rw e refl

refusals-one : (id : List ℕ) (t : Table) (n : Notice) (ns : List Notice)
    → refusals_for id t (n ∷ ns) ≡ (noticed id t n).refusal ∷ refusals_for id (noticed id t n).table ns
unfolding refusals_for
refusals-one id t n ns = refl

-- for a product on whose table the notice is refused, or whose call it is not
pub comment : (id : List ℕ) (t : Table) (before : List Notice) (n : Notice) (rest : List Notice)
    → (concerns id n ≡ true → (table_call (table_run t (calls_for id before)) n.call).refusal ≡ 0 → ⊥) → Comment id t before n rest
comment id t before n rest h =
    record {
      table =
          run-append id t before (n ∷ rest) ∙ run-first id so_far n rest ∙ ap (λ (x : Table). table_run x (calls_for id rest)) still ∙
          sym (run-append id t before rest);
      refusals = refusals-append id t before (n ∷ rest) ∙ rw (refusals-one id so_far n rest, still) refl;
      without = refusals-append id t before rest;
    }
  where
    so_far : Table
    so_far = table_run t (calls_for id before)

    still : (noticed id so_far n).table ≡ so_far
    still = noticed-still id so_far n h
