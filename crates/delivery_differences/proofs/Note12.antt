-- The four differences are note 12's: each test of the definition here is one of note 12's on the same entries.
-- Assumes nothing.
use Prim.Native.Nat.{ℕ, zero, suc, ◌+◌, ◌<◌}
use mathlib.Core.Path.{◌≡◌, refl, ◌∙◌, sym, ap}
use mathlib.Core.Bool.{Bool, true, false, not, ◌&&◌, ◌||◌, cond}
use mathlib.Core.List.{List, [], ◌∷◌, map}
use native.Mathlib.Nat.{zero-add}
use native.Mathlib.Omega.{arith}
use lib.Dec.{eqb, leb}
use lib.ListN.{length, get_or}
use borrow.Author.Tests.{ne_eqb, le-leb}
use Rattle.questions.proofs.Bools.{clash}
use Rattle.listing.specs.declared.Maturity.{Maturity}
use Rattle.table.specs.declared.Table.{Table}
use Rattle.table.specs.Table.{listed_in, sound}
use Rattle.table_vendor.specs.Vendor.{VendorEntry, vendor_entry_of, fresh_entries, times, vendor_day_in, differs, judgement, Reordered, Short, Judged}
use Rattle.table_vendor.proofs.Judging.{judged, reordered-alike, alike-not}
use Rattle.table_vendor.proofs.FreshEntries.{listed-entries, fresh-once, fresh-short}
use Rattle.delivery_differences.specs.declared.Why.TheVariants.{Same, Missing, Extra, Twice, Day, Number, DaysBack}
use Rattle.delivery_differences.specs.declared.DeliveredRow.{DeliveredRow}
use Rattle.delivery_differences.specs.Differences.{Right, row_entries, first_row, right_of, why_from, why_of, one_of_four, rows_at, OfNote12}

-- the first of six tests that holds is one of the first four
four : (a b c d e f : Bool) → one_of_four (cond a Missing (cond b Extra (cond c Twice (cond d Day (cond e Number (cond f DaysBack Same))))))
    ≡ ((a || b) || (d || c))
four true b c d e f = refl
four false true c d e f = refl
four false false true true e f = refl
four false false true false e f = refl
four false false false true e f = refl
four false false false false true f = refl
four false false false false false true = refl
four false false false false false false = refl

-- ---- a listed key, its day, and the day of the first row

-- a key is listed exactly where it stands at least once among the entries of the listing
pub right-times : (ms : List Maturity) (k : ℕ) → (right_of ms k).listed ≡ leb 1 (times (map vendor_entry_of ms) k)
unfolding right_of times
right-times [] k = refl
right-times (m ∷ ms) k = go (eqb m.key k) (right-times ms k)
  where
    go : (b : Bool) → (right_of ms k).listed ≡ leb 1 (times (map vendor_entry_of ms) k)
        → (cond {A = Right} b (record { listed = true; maturity = m }) (right_of ms k)).listed ≡ leb 1 (cond b 1 0 + times (map vendor_entry_of ms) k)
    go true e = sym (le-leb 1 (1 + times (map vendor_entry_of ms) k) (omega arith))
    go false e = e ∙ ap (leb 1) (sym (zero-add (times (map vendor_entry_of ms) k)))

right-day : (ms : List Maturity) (k : ℕ) → (right_of ms k).maturity.day ≡ vendor_day_in (map vendor_entry_of ms) k
unfolding right_of vendor_day_in
right-day [] k = refl
right-day (m ∷ ms) k = go (eqb m.key k) (right-day ms k)
  where
    go : (b : Bool) → (right_of ms k).maturity.day ≡ vendor_day_in (map vendor_entry_of ms) k
        → (cond {A = Right} b (record { listed = true; maturity = m }) (right_of ms k)).maturity.day ≡ cond b m.day (vendor_day_in (map vendor_entry_of ms) k)
    go true e = refl
    go false e = e

row-day : (rs : List DeliveredRow) (k : ℕ) → (first_row rs k).day ≡ vendor_day_in (row_entries rs) k
unfolding first_row vendor_day_in
row-day [] k = refl
row-day (r ∷ rs) k = go (eqb r.key k) (row-day rs k)
  where
    go : (b : Bool) → (first_row rs k).day ≡ vendor_day_in (row_entries rs) k → (cond b r (first_row rs k)).day ≡ cond b r.day (vendor_day_in (row_entries rs) k)
    go true e = refl
    go false e = e

not_some : (n : ℕ) → not (leb 1 n) ≡ eqb n 0
not_some zero = refl
not_some (suc n) = ap not (le-leb 1 (suc n) (omega arith)) ∙ sym (ne_eqb (suc n) 0 (λ e. omega arith))

-- ---- every key

module _ (listed : List Maturity) (rows : List DeliveredRow) (k : ℕ) where
  why-is : one_of_four (why_of listed rows k)
      ≡ (((right_of listed k).listed && eqb (times (row_entries rows) k) 0 || not (right_of listed k).listed && leb 1 (times (row_entries rows) k)) ||
      (not (eqb (right_of listed k).maturity.day (first_row rows k).day) || leb 2 (times (row_entries rows) k)))
  unfolding why_of why_from
  why-is =
      four ((right_of listed k).listed && eqb (times (row_entries rows) k) 0) (not (right_of listed k).listed && leb 1 (times (row_entries rows) k))
      (leb 2 (times (row_entries rows) k))
      (not (eqb (right_of listed k).maturity.day (first_row rows k).day))
      ((first_row rows k).full && not (eqb (right_of listed k).maturity.number (first_row rows k).number))
      ((first_row rows k).full && not (eqb (right_of listed k).maturity.back (first_row rows k).back))

  -- a key is missing, extra, twice or of another day exactly where it differs in the sense of note 12
  pub four-differs : one_of_four (why_of listed rows k) ≡ differs (map vendor_entry_of listed) (row_entries rows) k
  unfolding differs
  four-differs = why-is ∙ rw (right-times listed k, right-day listed k, row-day rows k, not_some (times (map vendor_entry_of listed) k)) refl

-- ---- of a sound table

module _ (t : Table) (rows : List DeliveredRow) (e : sound t ≡ true) (long : length t.maturities ≡ 15) (short : Short (row_entries rows)) where
  abbrev fresh : List VendorEntry
  fresh = fresh_entries t

  all-keys : (k : ℕ) → one_of_four (why_of (listed_in t) rows k) ≡ differs (fresh_entries t) (row_entries rows) k
  all-keys k = four-differs (listed_in t) rows k ∙ ap (λ (es : List VendorEntry). differs es (row_entries rows) k) (sym (listed-entries t e long))

  judgement-is : Judged (fresh_entries t) (row_entries rows)
  judgement-is = judged (fresh_entries t) (row_entries rows) (fresh-once t) (fresh-short t) short

  none-same : ((k : ℕ) → one_of_four (why_of (listed_in t) rows k) ≡ false) → (judgement (fresh_entries t) (row_entries rows)).same ≡ true
  none-same h = go (judgement (fresh_entries t) (row_entries rows)).same refl
    where
      go : (b : Bool) → (judgement (fresh_entries t) (row_entries rows)).same ≡ b → (judgement (fresh_entries t) (row_entries rows)).same ≡ true
      go true q = q
      go false q =
          let k = (judgement (fresh_entries t) (row_entries rows)).key in
          clash (all-keys k ∙ judgement-is.named q) (h k)

  reordered-none : Reordered (fresh_entries t) (row_entries rows) → (k : ℕ) → one_of_four (why_of (listed_in t) rows k) ≡ false
  reordered-none r k = all-keys k ∙ alike-not fresh (row_entries rows) (fresh-once t) k (reordered-alike fresh (row_entries rows) (fresh-once t) r k)

  -- of a sound table the keys with one of the four differences are those that differ in the sense of note 12
  pub of-note-12 : OfNote12 t rows
  of-note-12 =
      record {
        all = all-keys;
        none = (none-same, (λ s. reordered-none (judgement-is.yes.0 s)));
        reordered = ((λ h. judgement-is.yes.0 (none-same h)), reordered-none);
      }

-- ---- rows of lent lists of 16-bit numbers

far : (keys days fulls numbers backs : List ℕ) (k : ℕ) (places : List ℕ) → ((i : ℕ) → get_or keys i 0 < k)
    → times (row_entries (rows_at keys days fulls numbers backs places)) k ≡ 0
unfolding rows_at times
far keys days fulls numbers backs k [] h = refl
far keys days fulls numbers backs k (i ∷ places) h =
    let l : get_or keys i 0 < k = h i in
    rw (ne_eqb (get_or keys i 0) k (λ e. omega arith))
    (zero-add (times (row_entries (rows_at keys days fulls numbers backs places)) k) ∙ far keys days fulls numbers backs k places h)

-- the rows of a lent list of 16-bit keys have no key from 65,536 on
pub lent-short : (keys days fulls numbers backs places : List ℕ) → ((i : ℕ) → get_or keys i 0 < 65536)
    → Short (row_entries (rows_at keys days fulls numbers backs places))
lent-short keys days fulls numbers backs places h = record { below = λ k l. far keys days fulls numbers backs k places (λ i. omega (arith, h i)) }
