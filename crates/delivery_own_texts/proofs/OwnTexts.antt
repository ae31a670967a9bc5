-- `reconcile` finds nothing in what `deliver` prints: no key of any place differs, since the rows of a product that opened are its listing's, and of any other
-- there are no rows and nothing is listed; and the id of every row is in the file, so that no line tells of an unknown one.
-- Assumes nothing.
use mathlib.Core.Path.{◌≡◌, refl, ap, ◌∙◌}
use mathlib.Core.Bool.{Bool, true, false, cond}
use mathlib.Core.List.{List, [], ◌∷◌, append-nil}
use Prim.Native.Nat.{ℕ, zero, suc, ◌<◌}
use native.Mathlib.Omega.{arith}
use lib.Dec.{eqb}
use lib.ListN.{length, length-map}
use borrow.Author.Tests.{eq-eqb}
use Rattle.questions.specs.Questions.{first_no}
use Rattle.file_ids.specs.Ids.{place_count, is_record, record_count, id_at}
use Rattle.file_load.specs.Load.{load_asks, found}
use Rattle.table.specs.Table.{listed_in, open_call}
use Rattle.table_vendor.specs.Vendor.{times}
use Rattle.delivery_notices.specs.Notices.{text_told}
use Rattle.delivery_rows.specs.Delivery.{Row, opens_at}
use Rattle.delivery_parts.specs.PlaceParts.{parts_text}
use Rattle.delivery_differences.specs.declared.DeliveredRow.{DeliveredRow}
use Rattle.delivery_differences.specs.Differences.{first_row, right_of, why_from, why_of, differing, AnyOrder, NothingFound}
use Rattle.delivery_reports.specs.Reports.{differences_heading, keys_text}
use Rattle.delivery_receipts.specs.Receipts.{Received, received_of, receipt_of}
use Rattle.delivery_inputs.specs.ReconcileInputs.{bad_rows_text, bads_counted}
use Rattle.delivery_reconciled.specs.Reconciled.{sum_to, listed_at, keys_at, place_text, id_of, is_stranger, stranger_text, differences_text, differ_count}
use Rattle.delivery_reconciled.specs.Reconciled.{reconcile_text, summary_text, last_text, told_text, reconcile_told}
use Rattle.delivery_own.specs.Own.{item_back, received, EachBack, none, more, under_heading, printed_rows, table_in, rows_in, OwnRows}
use Rattle.delivery_own.proofs.Orders.{order_same}
use Rattle.delivery_own.proofs.Own.{none_differ, nothing-found, any-rows, printed-is}
use Rattle.delivery_own_texts.specs.OwnTexts.{FindsNothing, OwnTexts}

-- ---- parts that are empty, and their numbers

no-parts : (part : ℕ → List ℕ) (n : ℕ) → ((i : ℕ) → i < n → part i ≡ []) → parts_text part n ≡ []
unfolding parts_text
no-parts part zero h = refl
no-parts part (suc n) h = rw (no-parts part n (λ i l. h i (omega arith)), h n (omega arith)) refl

no-sum : (number : ℕ → ℕ) (n : ℕ) → ((i : ℕ) → i < n → number i ≡ 0) → sum_to number n ≡ 0
unfolding sum_to
no-sum number zero h = refl
no-sum number (suc n) h = rw (no-sum number n (λ i l. h i (omega arith)), h n (omega arith)) refl

-- nothing listed and no row
nothing-there : NothingFound [] []
unfolding why_of why_from right_of first_row times
nothing-there = record { same = λ k. refl }

-- ---- the ids of the rows

id-known : (f : List ℕ) (rs : List Row) → EachBack f rs → (i : ℕ) → i < length (received rs) → found f (id_of (received rs) i) ≡ true
id-known f [] none i h = absurd (omega (arith, h))
id-known f (r ∷ rs) (more b bs) zero h = b.known
id-known f (r ∷ rs) (more b bs) (suc i) h = id-known f rs bs i (omega (arith, h))

no-stranger : (f : List ℕ) (rs : List Row) → EachBack f rs → (i : ℕ) → i < length (received rs) → is_stranger f (received rs) i ≡ false
unfolding is_stranger
no-stranger f rs b i h = rw (id-known f rs b i h) refl

-- ---- any order of the rows

module _ (f notices : List ℕ) (a : first_no (load_asks f) ≡ 0) (b : (text_told notices).bad ≡ 0)
    (rows : List Row) (o : AnyOrder (printed_rows f notices) rows) where
  of-rows : OwnRows f notices rows (under_heading rows)
  of-rows = any-rows f notices a rows o

  abbrev taken : List Received
  taken = (receipt_of f (under_heading rows)).rows

  opens : (p : ℕ) (e : Bool) → is_record f p ≡ true → eqb (open_call f (id_at f p) (text_told notices).date).refusal 0 ≡ e
      → opens_at f (text_told notices).date p ≡ e
  unfolding opens_at
  opens p e h r = rw (h, r) refl

  -- no key of a place differs
  no_keys : (p : ℕ) → keys_at (open_call f) f (text_told notices) taken p ≡ []
  unfolding keys_at listed_at
  no_keys p = go (is_record f p) (eqb (open_call f (id_at f p) (text_told notices).date).refusal 0) refl refl
    where
      go : (h e : Bool) → is_record f p ≡ h → eqb (open_call f (id_at f p) (text_told notices).date).refusal 0 ≡ e
          → cond h (differing (cond e (listed_in (table_in f notices p)) []) (rows_in f (under_heading rows) p) 65536 0) [] ≡ []
      go false e u v = refl
      go true true u v =
          none_differ (listed_in (table_in f notices p)) (rows_in f (under_heading rows) p) (nothing-found f notices a rows o p (opens p true u v)) 65536 0
      go true false u v =
          ap (λ (rs : List DeliveredRow). differing [] rs 65536 0) (of-rows.others p u (opens p false u v)) ∙ none_differ [] [] nothing-there 65536 0

  no_place : (p : ℕ) → place_text (open_call f) f (text_told notices) taken p ≡ []
  unfolding place_text keys_text
  no_place p = rw (no_keys p) refl

  -- no row is of an id that is not in the file
  all_known : (i : ℕ) → i < length taken → is_stranger f taken i ≡ false
  all_known = rw of-rows.all (no-stranger f rows of-rows.each)

  no_line : (i : ℕ) → i < length taken → stranger_text f taken i ≡ []
  unfolding stranger_text
  no_line i h = rw (all_known i h) refl

  heading-alone : differences_text (open_call f) f (text_told notices) taken ≡ differences_heading
  unfolding differences_text
  heading-alone =
      rw (
        no-parts (place_text (open_call f) f (text_told notices) taken) (place_count f) (λ p l. no_place p),
        no-parts (stranger_text f taken) (length taken) no_line,
      )
      (append-nil differences_heading)

  none-counted : differ_count (open_call f) f (text_told notices) taken ≡ 0
  unfolding differ_count
  none-counted =
      rw (
        no-sum (λ p. length (keys_at (open_call f) f (text_told notices) taken p)) (place_count f) (λ p l. ap length (no_keys p)),
        no-sum (λ i. cond (is_stranger f taken i) 1 0) (length taken)
            (λ i l. ap (λ (x : Bool). cond x 1 0) (all_known i l)),
      )
      refl

  rows-counted : length taken ≡ length rows
  rows-counted = ap length of-rows.all ∙ length-map rows (λ (r : Row). received_of (item_back r))

  last : last_text (open_call f) f (text_told notices) (receipt_of f (under_heading rows)) ≡ summary_text (record_count f) (length rows) 0 0
  unfolding last_text bads_counted
  last = rw (of-rows.over, of-rows.bads, none-counted, rows-counted) refl

  -- `reconcile` finds nothing in the rows under their heading: no line on standard output, 0 differ and 0 bad
  pub finds-nothing : FindsNothing f notices rows (under_heading rows)
  unfolding reconcile_text reconcile_told told_text bad_rows_text
  finds-nothing =
      record {
        output = rw (eq-eqb (first_no (load_asks f)) 0 a, eq-eqb (text_told notices).bad 0 b, of-rows.over) heading-alone;
        told = rw (eq-eqb (first_no (load_asks f)) 0 a, eq-eqb (text_told notices).bad 0 b, last, of-rows.bads) refl;
      }

-- of every file and every text of notices
pub own-texts : (f notices : List ℕ) → OwnTexts f notices
own-texts f notices =
    record {
      any = finds-nothing f notices;
      own = λ a b. rw (printed-is f notices a b) (finds-nothing f notices a b (printed_rows f notices) (order_same (printed_rows f notices)));
    }
