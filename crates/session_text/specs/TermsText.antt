-- The lines that are printed for an answer (01, March 2008 and its neighbours, 'The program `terms`'; 02, notes 2 and 3).
-- Assumes nothing.
use Rattle.std.specs.Prelude.{ℕ, zero, suc, ◌+◌, ◌*◌, ◌/◌, ◌%◌, cond, List, [], ◌∷◌, ◌++◌, ltb, get_or}
use Rattle.days.specs.declared.Date.{Date}
use Rattle.days.specs.Gregorian.{month_year, month_name}
use Rattle.days.specs.Dates.{date_call}
use Rattle.product.specs.declared.Kind.{Kind}
use Rattle.product.specs.Fields.{is_weekly}
use Rattle.listing.specs.declared.Maturity.{Maturity}
use Rattle.listing.specs.Rules.{unused}
use Rattle.listing.specs.Months.{places_of_kind}
use Rattle.table.specs.declared.Outcome.{Outcome}

-- the last decimal digit of a number, in ASCII
abbrev pub last_digit : ℕ → ℕ
last_digit n = 48 + n % 10

-- a number in two digits
unfoldable pub in_two_digits : ℕ → List ℕ
in_two_digits n = last_digit (n / 10) ∷ last_digit n ∷ []

-- a number in four digits
unfoldable pub in_four_digits : ℕ → List ℕ
in_four_digits n = in_two_digits (n / 100) ++ in_two_digits (n % 100)

-- a number below 100,000 in decimal, with no zeros before it
unfoldable pub decimal : ℕ → List ℕ
decimal n =
    cond (ltb n 10) (last_digit n ∷ [])
    (cond (ltb n 100) (in_two_digits n)
    (cond (ltb n 1000) (last_digit (n / 100) ∷ in_two_digits (n % 100))
    (cond (ltb n 10000) (in_four_digits n) (last_digit (n / 10000) ∷ in_four_digits (n % 10000)))))

-- a year and a month in 4 and 2 digits joined by a hyphen, 45
unfoldable pub year_month : ℕ → ℕ → List ℕ
year_month y m = in_four_digits y ++ (45 ∷ in_two_digits m)

-- a month
unfoldable pub month_text : ℕ → List ℕ
month_text k = year_month (month_year k) (month_name k)

-- 'a date is year, month, day in 4, 2 and 2 digits joined by hyphens'
unfoldable pub date_text : Date → List ℕ
date_text d = year_month d.year d.month ++ (45 ∷ in_two_digits d.day)

-- a day, by its date; zeros for a number that 23 refuses
unfoldable pub day_text : ℕ → List ℕ
day_text d = date_text (date_call d).value

-- a space, 32, and a number
unfoldable pub spaced : ℕ → List ℕ
spaced n = 32 ∷ decimal n

-- 'its Friday, by whose date it is named and printed' (02, note 3):
-- a maturity's name is its month, of a weekly one its Friday
unfoldable pub name_text : Kind → ℕ → List ℕ
name_text kind key = cond (is_weekly kind) (day_text key) (month_text key)

-- 'number, month, last trading day for each maturity', the days stepped back 'as a fourth number' (02, note 2),
-- and a line feed, 10
unfoldable pub maturity_text : Kind → Maturity → List ℕ
maturity_text kind m =
    decimal m.number ++ (32 ∷ (name_text kind m.key ++ (32 ∷ (day_text m.day ++ (spaced m.back ++ (10 ∷ []))))))

-- the lines of the first n maturities
unfoldable pub maturities_text : Kind → ℕ → List Maturity → List ℕ
maturities_text kind zero ms = []
maturities_text kind (suc n) ms = maturities_text kind n ms ++ maturity_text kind (get_or ms n unused)

-- 'the call's letter, the table's date after the call, entered, left, given'
unfoldable pub heading_text : ℕ → ℕ → ℕ → ℕ → ℕ → List ℕ
heading_text letter date entered left given =
    (letter ∷ (32 ∷ [])) ++ (day_text date ++ (spaced entered ++ (spaced left ++ (spaced given ++ (10 ∷ [])))))

-- what is printed of a kind's table after a call: the first line, and a line for each place that the kind uses
abbrev pub call_text : ℕ → Kind → ℕ → ℕ → ℕ → ℕ → List Maturity → List ℕ
call_text letter kind date entered left given ms = heading_text letter date entered left given ++ maturities_text kind (places_of_kind kind) ms

-- what is printed for an accepted call
unfoldable pub outcome_text : ℕ → Outcome → List ℕ
outcome_text letter o = call_text letter o.table.product.kind o.table.date o.entered o.left o.table.given o.table.maturities

-- '`NO` and the number'
unfoldable pub refusal_text : ℕ → List ℕ
refusal_text number = (78 ∷ (79 ∷ [])) ++ (spaced number ++ (10 ∷ []))

-- '`BAD` for another line'
unfoldable pub bad_text : List ℕ
bad_text = 66 ∷ (65 ∷ (68 ∷ (10 ∷ [])))

-- only the code needs it: how many characters a name has
unfoldable pub name_width : Kind → ℕ
name_width kind = cond (is_weekly kind) 10 7

-- only the code needs it: the most characters that the lines of n maturities have
unfoldable pub lines_width : Kind → ℕ → ℕ
lines_width kind n = cond (is_weekly kind) (34 * n) (31 * n)
