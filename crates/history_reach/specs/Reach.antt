-- What one closure can reach, and two closures in either order (02, note 10).
-- Assumes nothing.
use Rattle.std.specs.Prelude.{ℕ, ◌+◌, ◌≤◌, ◌<◌, ◌≡◌, true, false, get_or}
use Rattle.calendar.specs.declared.Cover.{Cover}
use Rattle.calendar.specs.declared.Calendar.{Calendar}
use Rattle.calendar.specs.Trading.{cover_start, cover_end}
use Rattle.expiry.specs.LastDays.{anchor_of, last_trading_day}
use Rattle.listing.specs.declared.Maturity.{Maturity}
use Rattle.listing.specs.Rules.{Rule, widest, front, unused}
use Rattle.listing.specs.Months.{places_of_kind}
use Rattle.table_numbering.specs.Numbering.{is_listed}
use Rattle.table.specs.declared.Table.{Table}
use Rattle.table.specs.declared.Outcome.{Outcome}
use Rattle.table.specs.Table.{listed_in, close_call}

-- what `Table::close` promises of its result
abbrev pub Closes : Table → ℕ → Outcome → Type 0
Closes t day r = r ≡ close_call t day

-- a place of a table
abbrev pub maturity_at : Table → ℕ → Maturity
maturity_at t i = get_or t.maturities i unused

-- it is one of those that are used: it holds a listed maturity
abbrev pub UsedPlace : Table → ℕ → Type 0
UsedPlace t i = i < places_of_kind t.product.kind

-- the anchor of a maturity, 'for a weekly one, its Friday'
abbrev pub anchor_in : Table → ℕ → ℕ
anchor_in t key = anchor_of t.product.kind t.product.group key

-- its last trading day under the table's calendar, whether the table lists it or not
abbrev pub last_day_in : Table → ℕ → ℕ
last_day_in t key = last_trading_day t.calendar t.product.kind t.product.group key

-- from one table to the other its last trading day moved
abbrev pub DayMoved : Table → Table → ℕ → Type 0
DayMoved t t' key = last_day_in t' key ≡ last_day_in t key → ⊥

-- from the table t an accepted closure of the day d made t'
pub record Reached (t : Table) (d : ℕ) (t' : Table) : Type 0 where
  -- 'moves the last trading day of at most one listed maturity'
  pub one : (i j : ℕ) → UsedPlace t i → UsedPlace t j → DayMoved t t' (maturity_at t i).key → DayMoved t t' (maturity_at t j).key → i ≡ j
  -- 'and only of one that ended on the closed day'
  pub only : (i : ℕ) → UsedPlace t i → DayMoved t t' (maturity_at t i).key → (maturity_at t i).day ≡ d
  -- 'its new day lies at most six days before its anchor (for a weekly one, its Friday)',
  -- and not after it; so does the day of every other
  pub near : (i : ℕ) → UsedPlace t i
      → (last_day_in t' (maturity_at t i).key ≤ anchor_in t (maturity_at t i).key) × (anchor_in t (maturity_at t i).key ≤ last_day_in t' (maturity_at t i).key + 6)
  -- 'every other maturity still listed has its old number and day',
  -- and as many days stepped back as before: all that its place holds
  pub others : (i j : ℕ) → UsedPlace t i → UsedPlace t' j → (maturity_at t' j).key ≡ (maturity_at t i).key → (DayMoved t t' (maturity_at t i).key → ⊥)
      → maturity_at t' j ≡ maturity_at t i
  -- the one that moved, where it is still listed, has its old number too
  pub number : (i j : ℕ) → UsedPlace t i → UsedPlace t' j → (maturity_at t' j).key ≡ (maturity_at t i).key → (maturity_at t' j).number ≡ (maturity_at t i).number
  -- every maturity that did not move is still listed; one that left has its new day before the date
  pub stays : (i : ℕ) → UsedPlace t i → (DayMoved t t' (maturity_at t i).key → ⊥) → is_listed (listed_in t') (maturity_at t i).key ≡ true
  pub leaves : (i : ℕ) → UsedPlace t i → is_listed (listed_in t') (maturity_at t i).key ≡ false → last_day_in t' (maturity_at t i).key < t'.date
  -- the days that both tables hold are those that are said to move or to stay
  pub before : (i : ℕ) → UsedPlace t i → (maturity_at t i).day ≡ last_day_in t (maturity_at t i).key
  pub after : (j : ℕ) → UsedPlace t' j → (maturity_at t' j).day ≡ last_day_in t' (maturity_at t' j).key

-- 'two closures accepted one after the other are accepted in the other order and leave the same table, numbers included':
-- what the second closure gave back, and what the two gave back in the other order
pub record Exchanged (second first' second' : Outcome) : Type 0 where
  pub accepted-first : first'.refusal ≡ 0
  pub accepted-second : second'.refusal ≡ 0
  -- the whole table: product, calendar, date, all places, the count given
  pub same : second'.table ≡ second.table

-- 'This holds for monthly and weekly tables by one argument':
-- all that it asks of a rule on a date
pub record Spaced (r : Rule) (c : Cover) (date : ℕ) : Type 0 where
  -- the anchors of two maturities that may be listed lie a week apart at least
  pub apart : (j k : ℕ) → j < k → k < r.beyond → widest r.places j ≡ true → widest r.places k ≡ true → r.anchor j + 7 ≤ r.anchor k
  -- the anchors from the date on, and the six days before each, are in the cover
  pub deep : (k : ℕ) → r.start date ≤ k → k < r.beyond → (cover_start c + 6 ≤ r.anchor k) × (r.anchor k < cover_end c)
  -- no front is before the date's own key
  pub begins : (cal : Calendar) → r.start date ≤ front r cal date
