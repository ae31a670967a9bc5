-- Every row of a delivery is of a table for which demand 3 holds.
-- Assumes nothing.
use mathlib.Core.Path.{◌≡◌, refl, ◌∙◌, ap}
use mathlib.Core.Bool.{Bool, true, false, cond}
use mathlib.Core.Logic.{◌⊎◌, inl, inr}
use mathlib.Core.List.{List, [], ◌∷◌, ◌++◌, map}
use Prim.Native.Nat.{ℕ, zero, suc, ◌+◌, ◌-◌, ◌≤◌, ◌<◌}
use native.Mathlib.Omega.{arith}
use lib.Dec.{eqb}
use lib.ListN.{length, get_or, length-append, length-map, get_or-append}
use lib.Seq.{get_or-append-add}
use borrow.Author.Tests.{eqb-true}
use Rattle.questions.proofs.Bools.{both, lt-or-ge}
use Rattle.product.specs.declared.Kind.{Kind}
use Rattle.product.specs.declared.Product.{Product}
use Rattle.listing.specs.declared.Maturity.{Maturity}
use Rattle.listing.specs.Rules.{unused}
use Rattle.file_ids.specs.Ids.{place_count, is_record, id_at}
use Rattle.file_load.specs.Load.{product_of}
use Rattle.table.specs.declared.Table.{Table}
use Rattle.table.specs.Table.{listed_in, open_call}
use Rattle.table.proofs.Opens.{accepted-from}
use Rattle.history.specs.Book.{Call}
use Rattle.history.specs.History.{table_run}
use Rattle.history.proofs.FromFile.{from-file}
use Rattle.delivery_products.proofs.ProductPlaces.{place-product}
use Rattle.delivery_notices.specs.Notices.{Notice}
use Rattle.delivery_tables.specs.Tables.{calls_for, table_after}
use Rattle.delivery_rows.specs.Delivery.{Row, delivery_row, table_rows, opens_at, place_rows, rows_to, RowOfTable, EveryRow}

-- a row of some maturities
row_at : (id : List ℕ) (kind : Kind) (none : Row) (ms : List Maturity) (i : ℕ) → i < length ms
    → get_or (map (delivery_row id kind) ms) i none ≡ delivery_row id kind (get_or ms i unused)
row_at id kind none [] i h = absurd (omega arith)
row_at id kind none (m ∷ ms) zero h = refl
row_at id kind none (m ∷ ms) (suc i) h = row_at id kind none ms i (omega arith)

-- calls on an opened table leave the product's kind
kind-kept : (f id : List ℕ) (date : ℕ) (cs : List Call) → (open_call f id date).refusal ≡ 0
    → (table_run (open_call f id date).table cs).product.kind ≡ (product_of f id).kind
kind-kept f id date cs z =
    let h = from-file f id date z cs [] in
    ap (λ (t : Table). (table_run t cs).product.kind) h.opened ∙ ap (λ (p : Product). p.kind) h.demand.product

module _ (f : List ℕ) (date : ℕ) (ns : List Notice) where
  -- a place with a product that opens
  pub opens-parts : (p : ℕ) → opens_at f date p ≡ true → (is_record f p ≡ true) × ((open_call f (id_at f p) date).refusal ≡ 0)
  unfolding opens_at
  opens-parts p e =
      let (a, b) = both (is_record f p) (eqb (open_call f (id_at f p) date).refusal 0) e in
      (a, eqb-true _ _ b)

  -- a row of a place
  of-place : (p i : ℕ) (none : Row) → opens_at f date p ≡ true → i < length (table_rows (id_at f p) (table_after f (id_at f p) date ns))
      → RowOfTable f date ns (get_or (table_rows (id_at f p) (table_after f (id_at f p) date ns)) i none)
  unfolding table_rows
  of-place p i none e h =
      let t = table_after f (id_at f p) date ns in
      let q = opens-parts p e in
      let a = accepted-from f (id_at f p) date q.1 in
      let l : i < length (listed_in t) = omega (arith, h, length-map (listed_in t) (delivery_row (id_at f p) t.product.kind)) in
      rw (row_at (id_at f p) t.product.kind none (listed_in t) i l)
      (record {
        place = p;
        holds = q.0;
        id = refl;
        product = place-product f p a.loaded q.0;
        kind = kind-kept f (id_at f p) date (calls_for (id_at f p) ns) q.1;
        at = i;
        below = l;
        maturity = refl;
        opened = q.1;
        history = from-file f (id_at f p) date q.1 (calls_for (id_at f p) ns);
      })

  placed : (p i : ℕ) (none : Row) → i < length (place_rows f date ns p) → RowOfTable f date ns (get_or (place_rows f date ns p) i none)
  unfolding place_rows
  placed p i none h = go (opens_at f date p) refl h
    where
      go : (b : Bool) → opens_at f date p ≡ b → i < length (cond b (table_rows (id_at f p) (table_after f (id_at f p) date ns)) [])
          → RowOfTable f date ns (get_or (cond b (table_rows (id_at f p) (table_after f (id_at f p) date ns)) []) i none)
      go true e h = of-place p i none e h
      go false e h = absurd (omega arith)

  rows_of : (n i : ℕ) (none : Row) → i < length (rows_to f date ns n) → RowOfTable f date ns (get_or (rows_to f date ns n) i none)
  unfolding rows_to
  rows_of zero i none h = absurd (omega arith)
  rows_of (suc n) i none h = go (lt-or-ge i (length (rows_to f date ns n))) (rows_of n i none)
    where
      go : (i < length (rows_to f date ns n)) ⊎ (length (rows_to f date ns n) ≤ i)
          → (i < length (rows_to f date ns n) → RowOfTable f date ns (get_or (rows_to f date ns n) i none))
          → RowOfTable f date ns (get_or (rows_to f date ns n ++ place_rows f date ns n) i none)
      go (inl l) ih = rw (get_or-append (rows_to f date ns n) (place_rows f date ns n) none i l) (ih l)
      go (inr l) ih =
          let k : i ≡ length (rows_to f date ns n) + (i - length (rows_to f date ns n)) = omega arith in
          rw (k, get_or-append-add (rows_to f date ns n) (place_rows f date ns n) (i - length (rows_to f date ns n)) none)
          (placed n (i - length (rows_to f date ns n)) none (omega (arith, h, length-append (rows_to f date ns n) (place_rows f date ns n))))

  -- every row of a delivery is a row of the table of a product in the file
  pub every-row : EveryRow f date ns
  every-row = record { each = rows_of (place_count f) }
