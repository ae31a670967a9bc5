-- A list of months with last trading days, judged by a table's fresh listing (02, note 12; 01, Questions, 10).
-- A month, or a weekly maturity's Friday, is named by its key, and no definition asks which of the two it is:
-- 'Both kinds of maturity are judged by one method'.
-- Assumes nothing.
use Rattle.std.specs.Prelude.{ℕ, suc, ◌+◌, ◌≤◌, ◌<◌, ◌≡◌, Bool, true, false, not, ◌&&◌, ◌||◌, cond, ◌↔◌, eqb, leb}
use Rattle.std.specs.Prelude.{List, [], ◌∷◌, map, length, get_or, Option, Some, None, Result, Ok, Err}
use Rattle.questions.specs.Questions.{Ask, ask, Answer, answer}
use Rattle.questions.specs.Refusals.{refusal_number}
use Rattle.questions.specs.Search.{first_from}
use Rattle.questions.specs.declared.Refusal.{Refusal}
use Rattle.listing.specs.declared.Maturity.{Maturity}
use Rattle.table.specs.declared.Table.{Table}
use Rattle.table.specs.Table.{sound, fresh_in}

-- a month, or a Friday, with a last trading day
pub record VendorEntry : Type 0 where
  pub key : ℕ
  pub day : ℕ

-- a maturity as an entry
abbrev pub vendor_entry_of : Maturity → VendorEntry
vendor_entry_of m = record { key = m.key; day = m.day }

-- 'a lent list of months with last trading days':
-- key, day, key, day, ..; a key at the end without a day has day 0, a Saturday, so 'another day' than any listed one
unfoldable pub entries_of : List ℕ → List VendorEntry
entries_of [] = []
entries_of (k ∷ []) = record { key = k; day = 0 } ∷ []
entries_of (k ∷ d ∷ rest) = record { key = k; day = d } ∷ entries_of rest

-- 'the table's fresh listing', by the rules for 'the table's product, calendar and date'
unfoldable pub fresh_entries : Table → List VendorEntry
fresh_entries t = map vendor_entry_of (fresh_in t t.calendar t.date)

-- how often a key stands in a list
unfoldable pub times : List VendorEntry → ℕ → ℕ
times [] k = 0
times (e ∷ es) k = cond (eqb e.key k) 1 0 + times es k

-- how often a key stands in a list with a day
unfoldable pub times_with : List VendorEntry → ℕ → ℕ → ℕ
times_with [] k d = 0
times_with (e ∷ es) k d = cond (eqb e.key k && eqb e.day d) 1 0 + times_with es k d

-- the day that a key first stands with; 0 where it does not stand
unfoldable pub vendor_day_in : List VendorEntry → ℕ → ℕ
vendor_day_in [] k = 0
vendor_day_in (e ∷ es) k = cond (eqb e.key k) e.day (vendor_day_in es k)

-- a month 'that stands in only one of the two, has another day, or stands more than once in the list'
unfoldable pub differs : List VendorEntry → List VendorEntry → ℕ → Bool
differs fresh list k =
    (leb 1 (times fresh k) && eqb (times list k) 0 || eqb (times fresh k) 0 && leb 1 (times list k))
    || (not (eqb (vendor_day_in fresh k) (vendor_day_in list k))
    || leb 2 (times list k))

-- 'name the smallest month that ..';
-- 65,536, which is no 16-bit number, where there is none
unfoldable pub smallest : List VendorEntry → List VendorEntry → ℕ
smallest fresh list = first_from (differs fresh list) 65536 65536 0

-- what is said of a list: a yes, or a no with a key
pub record Judgement : Type 0 where
  pub same : Bool
  pub key : ℕ

-- a yes names no month: 0
abbrev pub yes_said : Judgement
yes_said = record { same = true; key = 0 }

-- 'say yes exactly when it is the table's fresh listing ..; with a no, name the smallest month ..'
unfoldable pub judgement : List VendorEntry → List VendorEntry → Judgement
judgement fresh list =
    cond (eqb (smallest fresh list) 65536) yes_said (record { same = false; key = smallest fresh list })

-- 'An unsound table gets 10'
abbrev pub vendor_asks : Table → List Ask
vendor_asks t = ask 10 (sound t) ∷ []

-- with a refusal 'other calls return zero values' (01, Questions):
-- no yes, and 0
abbrev pub nothing_said : Judgement
nothing_said = record { same = false; key = 0 }

-- what a lent list of numbers gets
unfoldable pub vendor_call : Table → List ℕ → Answer Judgement
vendor_call t list = answer (vendor_asks t) nothing_said (judgement (fresh_entries t) (entries_of list))

-- the number and the values that the result of a verdict stands for
abbrev pub verdict_answer : Result (Option ℕ) Refusal → Answer Judgement
verdict_answer (Ok None) = record { refusal = 0; value = yes_said }
verdict_answer (Ok (Some k)) = record { refusal = 0; value = record { same = false; key = k } }
verdict_answer (Err r) = record { refusal = refusal_number r; value = nothing_said }

-- 'in any order and each month once':
-- each key stands with each day as often in one list as in the other; that no key stands twice in a fresh listing is `once` below
pub record Reordered (fresh list : List VendorEntry) : Type 0 where
  pub each : (k d : ℕ) → times_with list k d ≡ times_with fresh k d

-- the keys of a list are 16-bit numbers
pub record Short (list : List VendorEntry) : Type 0 where
  pub below : (k : ℕ) → 65536 < suc k → times list k ≡ 0

-- what is said of any list, for fresh entries
pub record Judged (fresh list : List VendorEntry) : Type 0 where
  -- 'yes exactly when it is the table's fresh listing, in any order and each month once'
  pub yes : ((judgement fresh list).same ≡ true) ↔ Reordered fresh list
  -- 'with a no, name the smallest month that stands in only one of the two, has another day, or stands more than once in the list'
  pub named : (judgement fresh list).same ≡ false → differs fresh list (judgement fresh list).key ≡ true
  pub none-smaller : (judgement fresh list).same ≡ false → (k : ℕ) → k < (judgement fresh list).key → differs fresh list k ≡ false

-- what note 12 says of a table and a lent list of 16-bit numbers
pub record Vendors (t : Table) (list : List ℕ) (short : (i : ℕ) → i < length list → get_or list i 0 < 65536) : Type 0 where
  -- 'Given a sound table and a lent list .., say yes exactly when it is the table's fresh listing, in any order and each month once;
  -- with a no, name the smallest month ..'
  pub answers : sound t ≡ true → vendor_call t list ≡ record { refusal = 0; value = judgement (fresh_entries t) (entries_of list) }
  pub judged : sound t ≡ true → Judged (fresh_entries t) (entries_of list)
  -- 'each month once', in the fresh listing itself
  pub once : sound t ≡ true → (k : ℕ) → times (fresh_entries t) k ≤ 1
  -- 'An unsound table gets 10'
  pub unsound : sound t ≡ false → vendor_call t list ≡ record { refusal = 10; value = nothing_said }
  -- 'A vendor whose list the rules give for the table's product, calendar and date always gets yes'
  pub always : sound t ≡ true → Reordered (fresh_entries t) (entries_of list) → vendor_call t list ≡ record { refusal = 0; value = yes_said }
