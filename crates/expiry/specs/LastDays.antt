-- The third Friday, the anchor and the last trading day, of months and of weekly maturities (01, Last trading day; 002, 1.6.4; 02, notes 2 and 3).
-- Assumes nothing.
use Rattle.std.specs.Prelude.{ℕ, ◌+◌, ◌-◌, Bool, not, ◌&&◌, cond, List, eqb}
use Rattle.questions.specs.Search.{latest, first_from}
use Rattle.days.specs.Gregorian.{weekday_of}
use Rattle.days.specs.Dates.{first_of, month_of}
use Rattle.calendar.specs.declared.Calendar.{Calendar}
use Rattle.calendar.specs.Trading.{trading_day}
use Rattle.product.specs.declared.Kind.{Kind}
use Rattle.product.specs.Fields.{is_weekly}
use Rattle.product.specs.Settlement.{italian}
use Rattle.expiry.specs.declared.LastDay.{LastDay}

-- a Friday
abbrev pub friday : ℕ → Bool
friday d = eqb (weekday_of d) 4

-- the third Friday of a month: two weeks after the first Friday on or after its first day
unfoldable pub third_friday : ℕ → ℕ
third_friday m = first_from friday (first_of m) 7 (first_of m) + 14

-- 'the Fridays that are not the third Friday of their month' (02, note 3)
unfoldable pub weekly_friday : ℕ → Bool
weekly_friday d = friday d && not (eqb d (third_friday (month_of d)))

-- 'The anchor of a month is its third Friday; for the groups IT01 and IT11 the day before that'
unfoldable pub month_anchor : List ℕ → ℕ → ℕ
month_anchor group m = cond (italian group) (third_friday m - 1) (third_friday m)

-- a maturity is named by its key: a month by its number, a weekly maturity by the day number of its Friday, 'by whose date it is named' (02, note 3).
-- The key of a day is where the keys from that day on begin: its month's number; of weekly maturities the day's own number
unfoldable pub key_of : Kind → ℕ → ℕ
key_of kind d = cond (is_weekly kind) d (month_of d)

-- 'A weekly maturity's anchor is its Friday', and 'The Italian rule takes no part in them' (02, note 3):
-- the anchor of a key: its month's, or its Friday
unfoldable pub anchor_of : Kind → List ℕ → ℕ → ℕ
anchor_of kind group key = cond (is_weekly kind) key (month_anchor group key)

-- 'The last trading day is the anchor if it is a trading day, else the latest trading day before it';
-- 0 where there is none
unfoldable pub last_day : Calendar → ℕ → ℕ
last_day cal anchor = cond (trading_day cal anchor) anchor (latest (trading_day cal) (anchor - 1))

-- the last trading day of a key; of a weekly one its Friday 'taken back to the latest trading day at or before it' (02, note 3)
unfoldable pub last_trading_day : Calendar → Kind → List ℕ → ℕ → ℕ
last_trading_day cal kind group key = last_day cal (anchor_of kind group key)

-- a day with 'the number of days it stepped back from the anchor, .. equal to anchor − day' (02, note 2)
abbrev pub stepped_to : ℕ → ℕ → LastDay
stepped_to anchor day = record { day = day; back = anchor - day }

-- 'The working-out of a last trading day now also returns the number of days it stepped back from the anchor' (02, note 2)
unfoldable pub worked_out : Calendar → Kind → List ℕ → ℕ → LastDay
worked_out cal kind group key = stepped_to (anchor_of kind group key) (last_trading_day cal kind group key)
