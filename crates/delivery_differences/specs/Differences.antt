-- The differences between the rows that were delivered for one product and the maturities that its table lists
-- (docs/DELIVERY.md, `reconcile`, from which the quotations are; 02, note 12).
-- A month, or a weekly option's Friday, is named by its key.
-- Assumes nothing.
use Rattle.std.specs.Prelude.{ℕ, zero, suc, ◌-◌, ◌≡◌, Bool, true, false, not, ◌&&◌, cond, List, [], ◌∷◌, map, ◌↔◌, eqb, leb, get_or}
use Rattle.questions.specs.Search.{first_from}
use Rattle.listing.specs.declared.Maturity.{Maturity}
use Rattle.listing.specs.Rules.{unused}
use Rattle.table.specs.declared.Table.{Table}
use Rattle.table.specs.Table.{listed_in}
use Rattle.table_vendor.specs.Vendor.{VendorEntry, fresh_entries, times, differs, judgement, Reordered}
use Rattle.delivery_differences.specs.declared.Why.{Why}
use Rattle.delivery_differences.specs.declared.Why.TheVariants.{Same, Missing, Extra, Twice, Day, Number, DaysBack}
use Rattle.delivery_differences.specs.declared.DeliveredRow.{DeliveredRow}
use Rattle.delivery_differences.specs.declared.Difference.{Difference}

-- no row
abbrev pub no_row : DeliveredRow
no_row = record { key = 0; day = 0; full = false; number = 0; back = 0 }

-- a row as note 12 judges it: a month, or a Friday, with a last trading day
abbrev pub row_entry : DeliveredRow → VendorEntry
row_entry r = record { key = r.key; day = r.day }

-- the same of all rows
abbrev pub row_entries : List DeliveredRow → List VendorEntry
row_entries rows = map row_entry rows

-- '`delivered` is that of the first row with the key'
unfoldable pub first_row : List DeliveredRow → ℕ → DeliveredRow
first_row [] k = no_row
first_row (r ∷ rs) k = cond (eqb r.key k) r (first_row rs k)

-- whether a key is listed, and its maturity; zeros where it is not
pub record Right : Type 0 where
  pub listed : Bool
  pub maturity : Maturity

-- no maturity
abbrev pub not_listed : Right
not_listed = record { listed = false; maturity = unused }

-- the maturity with a key among those that are listed
unfoldable pub right_of : List Maturity → ℕ → Right
right_of [] k = not_listed
right_of (m ∷ ms) k = cond (eqb m.key k) (record { listed = true; maturity = m }) (right_of ms k)

-- 'the first `why` that holds', '`missing` (listed, not delivered), `extra` (delivered, not listed, however often),
-- `twice` (delivered more than once), `day`, `number`, `days_back` (the last two of five fields)':
-- of a key that is listed or not, was delivered so often, and first in this row
unfoldable pub why_from : Right → ℕ → DeliveredRow → Why
why_from right count row =
    cond (right.listed && eqb count 0) Missing
    (cond (not right.listed && leb 1 count) Extra
    (cond (leb 2 count) Twice
    (cond (not (eqb right.maturity.day row.day)) Day
    (cond (row.full && not (eqb right.maturity.number row.number)) Number
    (cond (row.full && not (eqb right.maturity.back row.back)) DaysBack Same)))))

-- why a key differs; `Same` where it does not
unfoldable pub why_of : List Maturity → List DeliveredRow → ℕ → Why
why_of listed rows k = why_from (right_of listed k) (times (row_entries rows) k) (first_row rows k)

-- a key does not differ
abbrev pub is_same : Why → Bool
is_same Same = true
is_same Missing = false
is_same Extra = false
is_same Twice = false
is_same Day = false
is_same Number = false
is_same DaysBack = false

-- a key differs
unfoldable pub differs_in : List Maturity → List DeliveredRow → ℕ → Bool
differs_in listed rows k = not (is_same (why_of listed rows k))

-- what is told of a key: why it differs, the first row with it, and the maturity that is right
unfoldable pub difference_of : List Maturity → List DeliveredRow → ℕ → Difference
difference_of listed rows k =
    record { why = why_of listed rows k; delivered = first_row rows k; right = (right_of listed k).maturity }

-- the smallest key that differs from a key on; 65,536, which is no 16-bit number, where there is none
unfoldable pub next_difference : List Maturity → List DeliveredRow → ℕ → ℕ
next_difference listed rows from = first_from (differs_in listed rows) 65536 (65536 - from) from

-- 'One line for a key that differs', 'keys rising':
-- those of n keys from one on
unfoldable pub differing : List Maturity → List DeliveredRow → ℕ → ℕ → List ℕ
differing listed rows zero from = []
differing listed rows (suc n) from =
    cond (differs_in listed rows from) (from ∷ differing listed rows n (suc from)) (differing listed rows n (suc from))

-- row i of five lent lists: key, day, whether it has five fields, the listing number and the days back; zeros past their end
abbrev pub row_at : List ℕ → List ℕ → List ℕ → List ℕ → List ℕ → ℕ → DeliveredRow
row_at keys days fulls numbers backs i =
    record {
      key = get_or keys i 0;
      day = get_or days i 0;
      full = not (eqb (get_or fulls i 0) 0);
      number = get_or numbers i 0;
      back = get_or backs i 0;
    }

-- the rows of one product among those of many: their places in the five lists, in order
unfoldable pub rows_at : List ℕ → List ℕ → List ℕ → List ℕ → List ℕ → List ℕ → List DeliveredRow
rows_at keys days fulls numbers backs [] = []
rows_at keys days fulls numbers backs (i ∷ places) =
    row_at keys days fulls numbers backs i ∷ rows_at keys days fulls numbers backs places

-- 'the keys with `missing`, `extra`, `twice` or `day`'
abbrev pub one_of_four : Why → Bool
one_of_four Same = false
one_of_four Missing = true
one_of_four Extra = true
one_of_four Twice = true
one_of_four Day = true
one_of_four Number = false
one_of_four DaysBack = false

-- what is found of a sound table, in the sense of note 12 (proofs, Note12: `of-note-12`)
pub record OfNote12 (t : Table) (rows : List DeliveredRow) : Type 0 where
  -- 'The keys with `missing`, `extra`, `twice` or `day` of a product with a table are ALL keys that differ in the sense of note 12'
  pub all : (k : ℕ) → one_of_four (why_of (listed_in t) rows k) ≡ differs (fresh_entries t) (row_entries rows) k
  -- 'and there is none exactly where note 12's answer is yes'
  pub none : ((k : ℕ) → one_of_four (why_of (listed_in t) rows k) ≡ false) ↔ ((judgement (fresh_entries t) (row_entries rows)).same ≡ true)
  -- 'and finds none of the four only where the rows are a reordering of the fresh listing'
  pub reordered : ((k : ℕ) → one_of_four (why_of (listed_in t) rows k) ≡ false) ↔ Reordered (fresh_entries t) (row_entries rows)

-- one list is another in any order: neighbours change their places, again and again
pub data AnyOrder {A : Type 0} : List A → List A → Type 0 where
  empty : AnyOrder [] []
  kept : {x : A} {xs ys : List A} → AnyOrder xs ys → AnyOrder (x ∷ xs) (x ∷ ys)
  swapped : {x y : A} {xs : List A} → AnyOrder (x ∷ y ∷ xs) (y ∷ x ∷ xs)
  again : {xs ys zs : List A} → AnyOrder xs ys → AnyOrder ys zs → AnyOrder xs zs

-- the row of a listed maturity, with five fields or with three
abbrev pub own_row : Bool → Maturity → DeliveredRow
own_row true m = record { key = m.key; day = m.day; full = true; number = m.number; back = m.back }
own_row false m = record { key = m.key; day = m.day; full = false; number = 0; back = 0 }

-- 'A reconciliation of what `deliver` prints .. with any order of its rows, finds nothing for a product that opened',
-- of the rows of one product (proofs, Own: `own-rows`)
pub record NothingFound (listed : List Maturity) (rows : List DeliveredRow) : Type 0 where
  pub same : (k : ℕ) → why_of listed rows k ≡ Same
