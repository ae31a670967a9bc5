-- What a valid date gives, and that the day of a date and the date of a day undo each other.
-- Assumes nothing.
use mathlib.Core.Path.{◌≡◌, refl, ◌∙◌}
use mathlib.Core.Bool.{true, false}
use mathlib.Core.List.{[]}
use Prim.Native.Nat.{ℕ, ◌+◌, ◌-◌, ◌/◌, ◌%◌, ◌≤◌, ◌<◌}
use native.Mathlib.Omega.{arith}
use lib.Dec.{leb}
use borrow.Author.Tests.{le-leb, lt-leb, leb-true}
use Rattle.questions.specs.Questions.{answer}
use Rattle.questions.proofs.Bools.{both}
use Rattle.questions.proofs.Asks.{no-asks, first-yes, first-no, none-no, accepted, refused}
use Rattle.days.specs.Gregorian.{length_of, first_day, month_length, month_number}
use Rattle.days.specs.Dates.{valid_date, day_of, month_of, date_of, zero_date, day_asks, date_asks, day_call, date_call, Undo}
use Rattle.days.proofs.MonthOfDay.{first-suc, first-last, month-is, month-holds, Holds}

pub record Valid (y m d : ℕ) : Type 0 where
  -- the year is 2000 or later
  pub from : 2000 ≤ y
  -- the year is 2099 or earlier
  pub to : y ≤ 2099
  -- the month is at least 1
  pub first : 1 ≤ m
  -- the month is at most 12
  pub last : m ≤ 12
  -- the day of the month is at least 1
  pub least : 1 ≤ d
  -- the day of the month is at most the length of the month
  pub most : d ≤ month_length y m

-- a date that passes the test has its year, month and day of the month in range
pub valid-facts : (y m d : ℕ) → valid_date y m d ≡ true → Valid y m d
unfolding valid_date
valid-facts y m d e =
    let (a, e1) = both _ _ e in
    let (b, e2) = both _ _ e1 in
    let (f, e3) = both _ _ e2 in
    let (g, e4) = both _ _ e3 in
    let (h, i) = both _ _ e4 in
    record { from = leb-true _ _ a; to = leb-true _ _ b; first = leb-true _ _ f; last = leb-true _ _ g; least = leb-true _ _ h; most = leb-true _ _ i }

facts-valid : (y m d : ℕ) → Valid y m d → valid_date y m d ≡ true
unfolding valid_date
facts-valid y m d v =
    simp (le-leb _ _ v.from, le-leb _ _ v.to, le-leb _ _ v.first, le-leb _ _ v.last, le-leb _ _ v.least, le-leb _ _ v.most)

-- the month's length by its number
length-number : (y m d : ℕ) → Valid y m d → length_of (month_number y m) ≡ month_length y m
unfolding length_of
length-number y m d v =
    let a : 2000 + month_number y m / 12 ≡ y = omega arith in
    let b : month_number y m % 12 + 1 ≡ m = omega arith in
    cc

-- the first day of a valid date's month plus its day of the month is at most 36,525
pub day-fits : (y m d : ℕ) → Valid y m d → first_day (month_number y m) + d ≤ 36525
day-fits y m d v = omega (arith, length-number y m d v, first-last (month_number y m) (omega arith))

-- a call that is accepted gives its value
pub day-accepted : (y m d : ℕ) → valid_date y m d ≡ true → day_call y m d ≡ record { refusal = 0; value = day_of y m d }
unfolding day_call
day-accepted y m d e = accepted (day_asks y m d) 0 (day_of y m d) (first-yes 23 {b = valid_date y m d} [] e ∙ no-asks)

-- a date that is not valid is refused with 23 and the value 0
pub day-refused : (y m d : ℕ) → valid_date y m d ≡ false → day_call y m d ≡ record { refusal = 23; value = 0 }
unfolding day_call
day-refused y m d e = refused (day_asks y m d) 0 (day_of y m d) 22 (first-no 23 [] e)

-- a day number below 36,525 is answered with its date and no refusal
pub date-accepted : (n : ℕ) → n < 36525 → date_call n ≡ record { refusal = 0; value = date_of n }
unfolding date_call
date-accepted n h = accepted (date_asks n) zero_date (date_of n) (first-yes 23 {b = leb n 36524} [] (le-leb n 36524 (omega arith)) ∙ no-asks)

-- a day number from 36,525 on is refused with 23 and a date of zeros
pub date-refused : (n : ℕ) → 36525 ≤ n → date_call n ≡ record { refusal = 23; value = zero_date }
unfolding date_call
date-refused n h = refused (date_asks n) zero_date (date_of n) 22 (first-no 23 [] (lt-leb n 36524 (omega arith)))

-- a valid date's day has the date's month
day-month : (y m d : ℕ) → Valid y m d → month_of (day_of y m d) ≡ month_number y m
unfolding day_of
day-month y m d v =
    let l = length-number y m d v in
    month-is (month_number y m) (first_day (month_number y m) + d - 1) (omega arith) (omega arith) (omega (arith, first-suc (month_number y m)))

date-back : (y m d : ℕ) → Valid y m d → date_of (day_of y m d) ≡ record { year = y; month = m; day = d }
unfolding date_of day_of
date-back y m d v =
    let k : month_of (first_day (month_number y m) + d - 1) ≡ month_number y m = day-month y m d v in
    let a : 2000 + month_number y m / 12 ≡ y = omega arith in
    let b : month_number y m % 12 + 1 ≡ m = omega arith in
    let r : first_day (month_number y m) + d - 1 - first_day (month_number y m) + 1 ≡ d = omega arith in
    simp (k, a, b, r)

-- a question that is not answered no is answered yes
valid-day : (y m d : ℕ) → (day_call y m d).refusal ≡ 0 → valid_date y m d ≡ true
unfolding day_call answer
valid-day y m d e = (none-no 22 (valid_date y m d) [] e).0

valid-number : (n : ℕ) → (date_call n).refusal ≡ 0 → leb n 36524 ≡ true
unfolding date_call answer
valid-number n e = (none-no 22 (leb n 36524) [] e).0

day-below : (y m d : ℕ) → Valid y m d → day_of y m d < 36525
unfolding day_of
day-below y m d v = omega (arith, day-fits y m d v)

day-then-date : (y m d : ℕ) → (day_call y m d).refusal ≡ 0
    → date_call (day_call y m d).value ≡ record { refusal = 0; value = record { year = y; month = m; day = d } }
day-then-date y m d e =
    let t = valid-day y m d e in
    let v = valid-facts y m d t in
    rw (day-accepted y m d t, date-accepted (day_of y m d) (day-below y m d v), date-back y m d v)

-- the date of a day n of the month k
in-month : (k n : ℕ) → Holds n k → Valid (2000 + k / 12) (k % 12 + 1) (n - first_day k + 1)
unfolding length_of
in-month k n h =
    let l : length_of k ≡ month_length (2000 + k / 12) (k % 12 + 1) = refl in
    record { from = omega arith; to = omega arith; first = omega arith; last = omega arith; least = omega arith; most = omega (arith, first-suc k) }

day-back : (k n : ℕ) → Holds n k → day_call (2000 + k / 12) (k % 12 + 1) (n - first_day k + 1) ≡ record { refusal = 0; value = n }
unfolding day_of
day-back k n h =
    let a : month_number (2000 + k / 12) (k % 12 + 1) ≡ k = omega arith in
    let r : first_day k + (n - first_day k + 1) - 1 ≡ n = omega arith in
    day-accepted _ _ _ (facts-valid _ _ _ (in-month k n h)) ∙ simp (a, r)

date-then-day : (n : ℕ) → (date_call n).refusal ≡ 0
    → day_call (date_call n).value.year (date_call n).value.month (date_call n).value.day ≡ record { refusal = 0; value = n }
unfolding date_of
date-then-day n e =
    let l : n ≤ 36524 = leb-true _ _ (valid-number n e) in
    let h : n < 36525 = omega arith in
    rw (date-accepted n h) (day-back (month_of n) n (month-holds n h))

-- date to day and day to date undo each other
pub undo : Undo
undo = record { day-then-date = day-then-date; date-then-day = date-then-day }
