-- A delivery finds nothing against itself: its rows are read back as they were printed, in any order, and the rows of each product are its listing's.
-- Assumes nothing.
use mathlib.Core.Path.{◌≡◌, refl, ap}
use mathlib.Core.List.{List, [], ◌∷◌}
use mathlib.Core.Bool.{true, false}
use Prim.Native.Nat.{ℕ, zero, suc, ◌-◌, ◌≤◌}
use native.Mathlib.Omega.{arith}
use lib.ListN.{length}
use borrow.Author.Tests.{eq-eqb}
use Rattle.questions.specs.Questions.{first_no}
use Rattle.product.specs.declared.Kind.{Kind}
use Rattle.listing.specs.declared.Maturity.{Maturity}
use Rattle.file_ids.specs.Ids.{place_count, is_record, id_at}
use Rattle.file_load.specs.Load.{load_asks}
use Rattle.table.specs.Table.{listed_in}
use Rattle.delivery_notices.specs.Notices.{text_told}
use Rattle.delivery_rows.specs.Delivery.{Row, opens_at}
use Rattle.delivery_rows.proofs.RowsOfTables.{opens-parts}
use Rattle.delivery_parts.specs.PlaceParts.{deliver_text}
use Rattle.delivery_differences.specs.declared.DeliveredRow.{DeliveredRow}
use Rattle.delivery_differences.specs.Differences.{differs_in, differing, AnyOrder, NothingFound, OfNote12}
use Rattle.delivery_differences.proofs.Note12.{of-note-12}
use Rattle.delivery_differences.proofs.OwnRows.{own-table}
use Rattle.delivery_receipts.specs.Receipts.{received_of, receipt_of}
use Rattle.delivery_reports.specs.Reports.{keys_text, report_from}
use Rattle.delivery_own.specs.Own.{item_back, received, EachBack, under_heading, printed_rows, opens_in, table_in, rows_in, found_in, OwnRows, OwnDelivery}
use Rattle.delivery_own.proofs.Orders.{order_same, order-length, order-map, order-each, order-for}
use Rattle.delivery_own.proofs.DeliveredPlaces.{open-table, each_to, rows_few, own_at, own-among, own-opens, own-closed}
use Rattle.delivery_own.proofs.OwnReceipts.{all-received}
use Rattle.delivery_own.proofs.OwnInputs.{input-short}

-- ---- where every key is the same there is no line

module _ (listed : List Maturity) (rows : List DeliveredRow) (s : NothingFound listed rows) where
  same_key : (k : ℕ) → differs_in listed rows k ≡ false
  unfolding differs_in
  same_key k = rw (s.same k) refl

  -- where nothing is found, no key differs, from any key on
  pub none_differ : (n from : ℕ) → differing listed rows n from ≡ []
  unfolding differing
  none_differ zero from = refl
  none_differ (suc n) from = rw (same_key from) (none_differ n (suc from))

  -- where nothing is found, there is no line, from any key on
  pub no_lines : (kind : Kind) (id : List ℕ) (from : ℕ) → report_from kind id listed rows from ≡ []
  unfolding report_from keys_text
  no_lines kind id from = ap (keys_text kind id listed rows) (none_differ (65536 - from) from)

-- ---- any order of the rows

module _ (f notices : List ℕ) (a : first_no (load_asks f) ≡ 0) (rows : List Row) (o : AnyOrder (printed_rows f notices) rows) where
  abbrev date : ℕ
  date = (text_told notices).date

  each_row : EachBack f rows
  each_row = order-each f o (each_to f (text_told notices).date (text_told notices).notices (place_count f))

  few-rows : length rows ≤ 65536
  few-rows = rw (← order-length o) (rows_few f (text_told notices).date (text_told notices).notices a)

  abbrev text : List ℕ
  text = under_heading rows

  all-rows : (receipt_of f (under_heading rows)).rows ≡ received rows
  all-rows = (all-received f rows few-rows each_row).0

  module _ (p : ℕ) (h : is_record f p ≡ true) where
    -- the rows of a product, in any order
    of-product : AnyOrder (own_at f (text_told notices).date (text_told notices).notices p a h) (rows_in f (under_heading rows) p)
    of-product =
        rw (all-rows, ← own-among f (text_told notices).date (text_told notices).notices p a h)
        (order-for (id_at f p) (order-map (λ (r : Row). received_of (item_back r)) o))

  -- the rows of a product that opens are its listing's
  pub nothing-found : (p : ℕ) → opens_in f notices p → NothingFound (listed_in (table_in f notices p)) (rows_in f (under_heading rows) p)
  nothing-found p q =
      let h : is_record f p ≡ true = (opens-parts f (text_told notices).date (text_told notices).notices p q).0 in
      let t = open-table f (text_told notices).date (text_told notices).notices p q in
      let s = of-product p h in
      own-table (table_in f notices p) t.is-sound t.long true (rows_in f (under_heading rows) p)
      (rw (own-opens f (text_told notices).date (text_told notices).notices p a h q) at s)

  nothing-of : (p : ℕ) → opens_in f notices p → found_in f notices (under_heading rows) p ≡ []
  nothing-of p q =
      no_lines (listed_in (table_in f notices p)) (rows_in f (under_heading rows) p) (nothing-found p q) (table_in f notices p).product.kind (id_at f p) 0

  no-others : (p : ℕ) → is_record f p ≡ true → opens_at f (text_told notices).date p ≡ false → rows_in f (under_heading rows) p ≡ []
  no-others p h q =
      empty-order (rows_in f (under_heading rows) p) (rw (own-closed f (text_told notices).date (text_told notices).notices p a h q) at (of-product p h))
    where
      empty-order : (xs : List DeliveredRow) → AnyOrder [] xs → xs ≡ []
      empty-order [] u = refl
      empty-order (x ∷ xs) u = absurd (omega (arith, order-length u))

  -- the rows that `deliver` prints, in any order under the heading, are all received, and nothing is found
  pub any-rows : OwnRows f notices rows (under_heading rows)
  any-rows =
      record {
        each = each_row;
        all = all-rows;
        bads = (all-received f rows few-rows each_row).1;
        over = (all-received f rows few-rows each_row).2;
        nothing = nothing-of;
        others = no-others;
      }

-- ---- what is printed

-- of an accepted file and notices without a bad line, `deliver` prints the heading and its rows
pub printed-is : (f notices : List ℕ) → first_no (load_asks f) ≡ 0 → (text_told notices).bad ≡ 0 → deliver_text f notices ≡ under_heading (printed_rows f notices)
unfolding deliver_text
printed-is f notices a b = rw (eq-eqb (first_no (load_asks f)) 0 a, eq-eqb (text_told notices).bad 0 b) refl

-- ---- any input

judged-12 : (f notices input : List ℕ) (p : ℕ) → opens_in f notices p → OfNote12 (table_in f notices p) (rows_in f input p)
judged-12 f notices input p q =
    let t = open-table f (text_told notices).date (text_told notices).notices p q in
    of-note-12 (table_in f notices p) (rows_in f input p) t.is-sound t.long (input-short f input (id_at f p))

-- of every file and every text of notices
pub own-delivery : (f notices : List ℕ) → OwnDelivery f notices
own-delivery f notices =
    record {
      any = λ a rows o. any-rows f notices a rows o;
      own = λ a b. rw (printed-is f notices a b) (any-rows f notices a (printed_rows f notices) (order_same (printed_rows f notices)));
      only = judged-12 f notices;
    }
