-- The rows of a delivery, place by place: each is read back, there are at most 65,536, and those with the id of a place are that place's.
-- Assumes nothing.
use mathlib.Core.Path.{◌≡◌, refl, sym, ap, ◌∙◌}
use mathlib.Core.List.{List, [], ◌∷◌, ◌++◌, map, append-nil, map-append}
use mathlib.Core.Bool.{Bool, true, false, ◌&&◌, cond}
use Prim.Native.Nat.{ℕ, zero, suc, ◌+◌, ◌-◌, ◌*◌, ◌%◌, ◌≤◌, ◌<◌}
use native.Mathlib.Nat.{add-zero, add-suc}
use native.Mathlib.Omega.{arith}
use lib.Dec.{eqb, leb}
use lib.ListN.{length, get_or, length-append, length-map, length-replicate, replicate}
use borrow.Author.Tests.{leb-true}
use Rattle.questions.specs.Questions.{first_no}
use Rattle.questions.proofs.Bools.{and-snd}
use Rattle.product.specs.declared.Kind.{Kind}
use Rattle.product.specs.declared.Product.{Product}
use Rattle.listing.specs.declared.Maturity.{Maturity}
use Rattle.listing.specs.Rules.{unused, places15}
use Rattle.listing.proofs.Fresh.{places-most}
use Rattle.file_blocks.specs.Blocks.{length_right}
use Rattle.file_ids.specs.Ids.{place_count, is_record, id_at}
use Rattle.file_load.specs.Products.{same_id}
use Rattle.file_load.specs.Load.{load_asks, product_of}
use Rattle.file_load.proofs.RisingIds.{record-inside}
use Rattle.file_load.proofs.LoadAnswers.{all_yes}
use Rattle.file_calendar.specs.Calendars.{calendar_of}
use Rattle.table.specs.declared.Table.{Table}
use Rattle.table.specs.Table.{listed_in, sound}
use Rattle.table.proofs.Opens.{accepted-from}
use Rattle.history.specs.History.{table_run, book}
use Rattle.history.proofs.FromFile.{from-file}
use Rattle.history.proofs.SoundTables.{listed-length}
use Rattle.delivery_notices.specs.Notices.{Notice}
use Rattle.delivery_products.proofs.ProductPlaces.{self-id, other-id}
use Rattle.delivery_tables.specs.Tables.{calls_for, table_after}
use Rattle.delivery_rows.specs.Delivery.{Row, delivery_row, table_rows, opens_at, place_rows, rows_to, delivery}
use Rattle.delivery_rows.proofs.RowsOfTables.{opens-parts}
use Rattle.delivery_differences.specs.declared.DeliveredRow.{DeliveredRow}
use Rattle.delivery_differences.specs.Differences.{own_row}
use Rattle.delivery_receipts.specs.Receipts.{Received, received_of}
use Rattle.delivery_receipts.specs.Receiving.{rows_for}
use Rattle.delivery_own.specs.Own.{item_back, received, ReadBack, EachBack, none, more}
use Rattle.delivery_own.proofs.PrintableRows.{row_back}
use Rattle.delivery_own.proofs.Orders.{each_append}

places-long : (xs : List Maturity) → length xs ≤ 15 → length (places15 xs) ≡ 15
unfolding places15
places-long xs l = omega (arith, length-append xs (replicate (15 - length xs) unused), length-replicate (15 - length xs) unused)

-- what is known of the table of a place that opens
pub record OpenTable (f : List ℕ) (p : ℕ) (t : Table) : Type 0 where
  -- it is sound
  pub is-sound : sound t ≡ true
  -- its kind is that of the file's product
  pub kind : t.product.kind ≡ (product_of f (id_at f p)).kind
  -- it has 15 places for maturities
  pub long : length t.maturities ≡ 15
  -- it lists at most 15 maturities
  pub few : length (listed_in t) ≤ 15

module _ (f : List ℕ) (date : ℕ) (ns : List Notice) where
  abbrev after : ℕ → Table
  after p = table_after f (id_at f p) date ns

  -- the table after the notices of a place that opens is sound, has the product's kind and lists at most 15 maturities
  pub open-table : (p : ℕ) → opens_at f date p ≡ true → OpenTable f p (after p)
  open-table p o =
      let q = opens-parts f date ns p o in
      let h = from-file f (id_at f p) date q.1 (calls_for (id_at f p) ns) [] in
      let cs = calls_for (id_at f p) ns in
      let s : sound (after p) ≡ true = rw h.opened h.demand.stays-sound in
      let n : length (listed_in (after p)) ≤ 15 = omega (arith, listed-length (after p) s, places-most (after p).product.kind) in
      let ms : listed_in (after p) ≡ (book (product_of f (id_at f p)) (calendar_of f) date cs).maturities = rw h.opened h.demand.book-listed in
      let all : (after p).maturities ≡ places15 (book (product_of f (id_at f p)) (calendar_of f) date cs).maturities =
      rw h.opened h.demand.book-maturities in
      record {
        is-sound = s;
        kind = ap (λ (x : Table). (table_run x cs).product.kind) h.opened ∙ ap (λ (x : Product). x.kind) h.demand.product;
        long = ap length (all ∙ ap places15 (sym ms)) ∙ places-long (listed_in (after p)) n;
        few = n;
      }

  -- ---- each row

  each_of : (id : List ℕ) (kind : Kind) (ms : List Maturity)
      → ((i : ℕ) → i < length ms → ReadBack f (delivery_row id kind (get_or ms i unused))) → EachBack f (map (delivery_row id kind) ms)
  each_of id kind [] h = none
  each_of id kind (m ∷ ms) h = more (h 0 (omega arith)) (each_of id kind ms (λ i l. h (suc i) (omega arith)))

  each-open : (p : ℕ) → opens_at f date p ≡ true → EachBack f (table_rows (id_at f p) (after p))
  unfolding table_rows
  each-open p o =
      let q = opens-parts f date ns p o in
      let a = accepted-from f (id_at f p) date q.1 in
      let t = open-table p o in
      each_of (id_at f p) (after p).product.kind (listed_in (after p)) (row_back f p a.loaded q.0 a.there (after p) t.is-sound t.kind)

  each-place : (p : ℕ) → EachBack f (place_rows f date ns p)
  unfolding place_rows
  each-place p = go (opens_at f date p) refl
    where
      go : (b : Bool) → opens_at f date p ≡ b → EachBack f (cond b (table_rows (id_at f p) (after p)) [])
      go true o = each-open p o
      go false o = none

  -- each row of the first n places is read back
  pub each_to : (n : ℕ) → EachBack f (rows_to f date ns n)
  unfolding rows_to
  each_to zero = none
  each_to (suc n) = each_append f (each_to n) (each-place n)

  -- ---- how many

  place-few : (p : ℕ) → length (place_rows f date ns p) ≤ 15
  unfolding place_rows table_rows
  place-few p = go (opens_at f date p) refl
    where
      go : (b : Bool) → opens_at f date p ≡ b → length (cond b (map (delivery_row (id_at f p) (after p).product.kind) (listed_in (after p))) []) ≤ 15
      go true o = omega (arith, length-map (listed_in (after p)) (delivery_row (id_at f p) (after p).product.kind), (open-table p o).few)
      go false o = omega arith

  few-to : (n : ℕ) → length (rows_to f date ns n) ≤ 15 * n
  unfolding rows_to
  few-to zero = omega arith
  few-to (suc n) = omega (arith, few-to n, place-few n, length-append (rows_to f date ns n) (place_rows f date ns n))

  file-short : first_no (load_asks f) ≡ 0 → length f ≤ 65536
  unfolding length_right
  file-short a = leb-true (length f) 65536 (and-snd (eqb (length f % 512) 0 && leb 1024 (length f)) (leb (length f) 65536) (all_yes f a).yes1)

  -- the delivery of an accepted file has at most 65,536 rows
  pub rows_few : first_no (load_asks f) ≡ 0 → length (delivery f date ns) ≤ 65536
  rows_few a = omega (arith, few-to (place_count f), file-short a)

-- ---- the rows of a product

for-append : (id : List ℕ) (x y : List Received) → rows_for id (x ++ y) ≡ rows_for id x ++ rows_for id y
unfolding rows_for
for-append id [] y = refl
for-append id (r ∷ x) y = go (same_id r.id id) (for-append id x y)
  where
    go : (b : Bool) → rows_for id (x ++ y) ≡ rows_for id x ++ rows_for id y
        → cond b (r.row ∷ rows_for id (x ++ y)) (rows_for id (x ++ y)) ≡ cond b (r.row ∷ rows_for id x) (rows_for id x) ++ rows_for id y
    go true e = ap (λ (rs : List DeliveredRow). r.row ∷ rs) e
    go false e = e

received-append : (x y : List Row) → received (x ++ y) ≡ received x ++ received y
received-append x y = map-append (λ (r : Row). received_of (item_back r)) x y

-- the rows of one id, looked for by another and by itself
of_others : (id own : List ℕ) (kind : Kind) (ms : List Maturity) → same_id id own ≡ false → rows_for own (received (map (delivery_row id kind) ms)) ≡ []
unfolding rows_for
of_others id own kind [] e = refl
of_others id own kind (m ∷ ms) e = rw e (of_others id own kind ms e)

of-own : (id : List ℕ) (kind : Kind) (ms : List Maturity) → rows_for id (received (map (delivery_row id kind) ms)) ≡ map (own_row true) ms
unfolding rows_for
of-own id kind [] = refl
of-own id kind (m ∷ ms) = rw (self-id id) (ap (λ (rs : List DeliveredRow). own_row true m ∷ rs) (of-own id kind ms))

no_rows : (id : List ℕ) → rows_for id (received []) ≡ []
unfolding rows_for
no_rows id = refl

module _ (f : List ℕ) (date : ℕ) (ns : List Notice) (p : ℕ) (a : first_no (load_asks f) ≡ 0) (h : is_record f p ≡ true) where
  -- the rows of the product at the place
  unfoldable pub own_at : List DeliveredRow
  own_at = cond (opens_at f date p) (map (own_row true) (listed_in (table_after f (id_at f p) date ns))) []

  here : rows_for (id_at f p) (received (place_rows f date ns p)) ≡ own_at
  unfolding place_rows table_rows own_at
  here = go (opens_at f date p)
    where
      t : Table
      t = table_after f (id_at f p) date ns

      go : (b : Bool)
          → rows_for (id_at f p) (received (cond b (map (delivery_row (id_at f p) t.product.kind) (listed_in t)) []))
          ≡ cond b (map (own_row true) (listed_in t)) []
      go true = of-own (id_at f p) t.product.kind (listed_in t)
      go false = no_rows (id_at f p)

  elsewhere : (q : ℕ) → (q ≡ p → ⊥) → rows_for (id_at f p) (received (place_rows f date ns q)) ≡ []
  unfolding place_rows table_rows
  elsewhere q n = go (opens_at f date q) refl
    where
      t : Table
      t = table_after f (id_at f q) date ns

      go : (b : Bool) → opens_at f date q ≡ b → rows_for (id_at f p) (received (cond b (map (delivery_row (id_at f q) t.product.kind) (listed_in t)) [])) ≡ []
      go true o = of_others (id_at f q) (id_at f p) t.product.kind (listed_in t) (other-id f p q a h (opens-parts f date ns q o).0 n)
      go false o = no_rows (id_at f p)

  abbrev among : ℕ → List DeliveredRow
  among n = rows_for (id_at f p) (received (rows_to f date ns n))

  one_more : (n : ℕ) → among (suc n) ≡ among n ++ rows_for (id_at f p) (received (place_rows f date ns n))
  unfolding rows_to
  one_more n =
      ap (rows_for (id_at f p)) (received-append (rows_to f date ns n) (place_rows f date ns n))
      ∙ for-append (id_at f p) (received (rows_to f date ns n)) (received (place_rows f date ns n))

  before : (n : ℕ) → n ≤ p → among n ≡ []
  unfolding rows_to
  before zero l = no_rows (id_at f p)
  before (suc n) l = one_more n ∙ rw (before n (omega arith), elsewhere n (λ e. omega arith)) refl

  past : (k : ℕ) → among (suc p + k) ≡ own_at
  past zero = ap among (add-zero (suc p)) ∙ one_more p ∙ rw (before p (omega arith)) here
  past (suc k) = ap among (add-suc (suc p) k) ∙ one_more (suc p + k) ∙ rw (past k, elsewhere (suc p + k) (λ e. omega arith)) (append-nil own_at)

  -- the rows received of a product are its own: those of its table, or none where it does not open
  pub own-among : rows_for (id_at f p) (received (delivery f date ns)) ≡ own_at
  own-among =
      let n : place_count f ≡ suc p + (place_count f - suc p) = omega (arith, record-inside f p h) in
      ap among n ∙ past (place_count f - suc p)

  -- its own rows where it opens: one for each maturity that its table lists
  pub own-opens : opens_at f date p ≡ true → own_at ≡ map (own_row true) (listed_in (table_after f (id_at f p) date ns))
  unfolding own_at
  own-opens o = rw o refl

  -- it has no rows of its own where it does not open
  pub own-closed : opens_at f date p ≡ false → own_at ≡ []
  unfolding own_at
  own-closed o = rw o refl
