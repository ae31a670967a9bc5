-- Listings by rule, whatever the maturities are (01, Last trading day; Listed months; The table; Questions, 16; 02, notes 1 to 3 and 9).
-- A maturity is named by a key: a month's number, or the day number of a weekly maturity's Friday (02, note 3).
-- Assumes nothing.
use Rattle.std.specs.Prelude.{ℕ, zero, suc, ◌+◌, ◌-◌, ◌<◌, ◌≡◌, Bool, true, false, ◌&&◌, cond, List, [], ◌∷◌, ◌++◌, leb, ltb, eqb, length, replicate}
use Rattle.questions.specs.Search.{first_from}
use Rattle.calendar.specs.declared.Calendar.{Calendar}
use Rattle.expiry.specs.declared.LastDay.{LastDay}
use Rattle.expiry.specs.LastDays.{last_day, stepped_to}
use Rattle.listing.specs.declared.Maturity.{Maturity}

-- what a product's kind and group, and the cover, say of its maturities
pub record Rule : Type 0 where
  -- the places of a listing in the order in which they are filled, each with the set of keys that it takes
  pub places : List (ℕ → Bool)
  -- the anchor day of a key
  pub anchor : ℕ → ℕ
  -- the key from which the front is looked for on a date
  pub start : ℕ → ℕ
  -- the first key of the cover, and the first beyond it
  pub first : ℕ
  pub beyond : ℕ
  -- the keys of the cover that are counted before the front
  pub counted : ℕ → Bool

-- the last trading day of a key
abbrev pub last_day_of : Rule → Calendar → ℕ → ℕ
last_day_of r cal k = last_day cal (r.anchor k)

-- 'whose last trading day is not before the date'
abbrev pub alive : Rule → Calendar → ℕ → ℕ → Bool
alive r cal date k = leb date (last_day_of r cal k)

-- the set of the first place; every key that another place may take is in it too
abbrev pub widest : List (ℕ → Bool) → ℕ → Bool
widest [] k = true
widest (set ∷ rest) k = set k

-- 'The front month on a date is the first month, from the date's own month on, whose last trading day is not before the date';
-- the first key beyond the cover where the cover has none. Only keys that the first place may take are looked at:
-- for kinds 0 to 3 every month, for kind 4 'the first month of those seven names' (02, note 1);
-- for kind 5 weekly Fridays, from the date on, since no maturity's day lies after its Friday:
-- 'the four start at the first whose day is not before the date' (02, note 3)
unfoldable pub front : Rule → Calendar → ℕ → ℕ
front r cal date =
    first_from (λ k. widest r.places k && alive r cal date k) r.beyond (r.beyond - r.start date) (r.start date)

-- how many of the n keys from k on are counted
unfoldable pub count_from : (ℕ → Bool) → ℕ → ℕ → ℕ
count_from counted zero k = 0
count_from counted (suc n) k = cond (counted k) 1 0 + count_from counted n (suc k)

-- 'the number of cover months before the front month' (01, The table);
-- 'the cover's weekly Fridays before the front one take the place of cover months' (02, note 3)
unfoldable pub keys_before : Rule → Calendar → ℕ → ℕ
keys_before r cal date = count_from r.counted (front r cal date - r.first) r.first

-- 27: 'does the front maturity stay the same month or Friday, whatever its day, so that none before it comes back?' (02, note 9)
unfoldable pub front_stays : Rule → Calendar → Calendar → ℕ → Bool
front_stays r cal reopened date = eqb (front r cal date) (front r reopened date)

-- the first key of a set from k on; the first key beyond the cover where the cover has none
abbrev pub next_of : ℕ → (ℕ → Bool) → ℕ → ℕ
next_of beyond set k = first_from set beyond (beyond - k) k

-- only the code needs it: the first key of a set from k on is the n-th after k
pub record NextAfter (set : ℕ → Bool) (k n : ℕ) : Type 0 where
  pub none : (i : ℕ) → i < n → set (k + i) ≡ false
  pub there : set (k + n) ≡ true

-- 'Step one takes the front month and those after it; each later step takes the next months of its set that follow the last month taken.
-- Listing stops .. as soon as a month lies beyond the cover'
unfoldable pub taken : ℕ → List (ℕ → Bool) → ℕ → List ℕ
taken beyond [] k = []
taken beyond (set ∷ rest) k =
    let key = next_of beyond set k in
    let more = key ∷ taken beyond rest (suc key) in
    cond (ltb key beyond) more []

-- the keys of the fresh listing
unfoldable pub fresh_keys : Rule → Calendar → ℕ → List ℕ
fresh_keys r cal date = taken r.beyond r.places (front r cal date)

-- 16: 'Are all months of the fresh listing in the cover?', which reads 'with Fridays' for weekly maturities (02, note 3).
-- Then every place was filled
unfoldable pub complete : Rule → Calendar → ℕ → Bool
complete r cal date = eqb (length (fresh_keys r cal date)) (length r.places)

-- the last trading day of a key, with the days stepped back from its anchor (02, note 2)
abbrev pub last_of : Rule → Calendar → ℕ → LastDay
last_of r cal k = stepped_to (r.anchor k) (last_day_of r cal k)

-- 'month, last trading day, listing number'; of the days stepped back 'The table keeps it for each maturity' (02, note 2):
-- a maturity, with the month or Friday as its key
abbrev pub maturity : Rule → Calendar → (ℕ → ℕ) → ℕ → Maturity
maturity r cal number k = record { key = k; day = (last_of r cal k).day; back = (last_of r cal k).back; number = number k }

-- an unused place
abbrev pub unused : Maturity
unused = record { key = 0; day = 0; back = 0; number = 0 }

-- 'up to 15 maturities by rising month ..; unused places zero'
unfoldable pub places15 : List Maturity → List Maturity
places15 ms = ms ++ replicate (15 - length ms) unused
