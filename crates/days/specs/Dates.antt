-- Dates and day numbers, each from the other, and the years (01, Days and months; question 23).
-- Assumes nothing.
use Rattle.std.specs.Prelude.{ℕ, zero, suc, ◌+◌, ◌-◌, ◌*◌, ◌/◌, ◌%◌, ◌≡◌, Bool, ◌&&◌, cond, List, [], ◌∷◌, Result, leb, ltb, eqb}
use Rattle.questions.specs.Questions.{Ask, ask, Answer, answer}
use Rattle.questions.specs.Refusals.{result_answer}
use Rattle.questions.specs.declared.Refusal.{Refusal}
use Rattle.days.specs.declared.Date.{Date}
use Rattle.days.specs.Gregorian.{month_length, month_number, month_year, month_name, length_of, first_day}

-- a date of 2000 to 2099
unfoldable pub valid_date : ℕ → ℕ → ℕ → Bool
valid_date y m d = leb 2000 y && (leb y 2099 && (leb 1 m && (leb m 12 && (leb 1 d && leb d (month_length y m)))))

-- the day number of a date
unfoldable pub day_of : ℕ → ℕ → ℕ → ℕ
day_of y m d = first_day (month_number y m) + d - 1

-- the month of the day that comes d days after the first day of month k, looked for in n months: a month's length is taken off, and the next is tried
unfoldable pub month_from : ℕ → ℕ → ℕ → ℕ
month_from zero k d = k
month_from (suc n) k d = let later = month_from n (suc k) (d - length_of k) in cond (ltb d (length_of k)) k later

-- the month number of a day, 0 to 1,199; 1,200 for a day after 2099
unfoldable pub month_of : ℕ → ℕ
month_of d = month_from 1200 0 d

-- the date of a day
unfoldable pub date_of : ℕ → Date
date_of d = record { year = month_year (month_of d); month = month_name (month_of d); day = d - first_day (month_of d) + 1 }

-- a date of zeros, which stands with a refusal
abbrev pub zero_date : Date
zero_date = record { year = 0; month = 0; day = 0 }

-- 23, of a date: 'Is it a date .. of 2000–2099?'
abbrev pub day_asks : ℕ → ℕ → ℕ → List Ask
day_asks y m d = ask 23 (valid_date y m d) ∷ []

-- 23, of a day number: day numbers run 'to 31 December 2099 (36,524)'
abbrev pub date_asks : ℕ → List Ask
date_asks d = ask 23 (leb d 36524) ∷ []

-- the call from a date to its day
unfoldable pub day_call : ℕ → ℕ → ℕ → Answer ℕ
day_call y m d = answer (day_asks y m d) 0 (day_of y m d)

-- the call from a day to its date
unfoldable pub date_call : ℕ → Answer Date
date_call d = answer (date_asks d) zero_date (date_of d)

-- the number and the value that the result for a day stands for
abbrev pub day_answer : Result ℕ Refusal → Answer ℕ
day_answer result = result_answer 0 result

-- the number and the values that the result for a date stands for
abbrev pub date_answer : Result Date Refusal → Answer Date
date_answer result = result_answer zero_date result

-- the first day of a month of 2000 to 2099; 36,525 for any later month
unfoldable pub first_of : ℕ → ℕ
first_of k = cond (ltb k 1200) (first_day k) 36525

-- the year of a day; 2100 for a day after 2099
unfoldable pub year_of : ℕ → ℕ
year_of d = month_year (month_of d)

-- 1 January of a year of 2000 to 2099; 0 for an earlier year, 36,525 for a later one
unfoldable pub year_start : ℕ → ℕ
year_start y = first_of (12 * (y - 2000))

-- 'day n of the year (from 0)' (01, Master file)
unfoldable pub day_in_year : ℕ → ℕ
day_in_year d = d - year_start (year_of d)

-- by arithmetic: the first of March of the year 2000 + i, counted from the year's first day
unfoldable pub march_in : ℕ → ℕ
march_in i = cond (eqb (i % 4) 0) 60 59

-- the first day of month j, from 0, counted from the year's first day: from March on five months have 153 days
unfoldable pub start_in : ℕ → ℕ → ℕ
start_in march j = cond (ltb j 2) (31 * j) (march + (153 * j - 304) / 5)

-- 'Date to day and day to date undo each other'
pub record Undo : Type 0 where
  -- the date of the day of a date is the date
  pub day-then-date : (y m d : ℕ) → (day_call y m d).refusal ≡ 0
      → date_call (day_call y m d).value ≡ record { refusal = 0; value = record { year = y; month = m; day = d } }
  -- the day of the date of a day is the day
  pub date-then-day : (n : ℕ) → (date_call n).refusal ≡ 0
      → day_call (date_call n).value.year (date_call n).value.month (date_call n).value.day ≡ record { refusal = 0; value = n }
