-- The Gregorian months of 2000 to 2099 and their days (01, Days and months).
-- Assumes nothing.
use Rattle.std.specs.Prelude.{ℕ, zero, suc, ◌+◌, ◌-◌, ◌*◌, ◌/◌, ◌%◌, Bool, not, ◌&&◌, ◌||◌, cond, List, [], ◌∷◌, eqb, length}
use Rattle.questions.specs.Search.{one_of}

-- 'Gregorian':
-- every fourth year is a leap year, of the hundredth years only every fourth
unfoldable pub leap_year : ℕ → Bool
leap_year y = eqb (y % 4) 0 && (not (eqb (y % 100) 0) || eqb (y % 400) 0)

-- the length of the month m, 1 to 12, in a leap year or another; a number that is no month has length 0
unfoldable pub length_in : Bool → ℕ → ℕ
length_in leap m =
    cond (eqb m 2) (cond leap 29 28)
    (cond (one_of (4 ∷ 6 ∷ 9 ∷ 11 ∷ []) m) 30
    (cond (one_of (1 ∷ 3 ∷ 5 ∷ 7 ∷ 8 ∷ 10 ∷ 12 ∷ []) m) 31 0))

-- the length of the month m of the year y
unfoldable pub month_length : ℕ → ℕ → ℕ
month_length y m = length_in (leap_year y) m

-- 'A month number is 12 × (year − 2000) + month − 1'
abbrev pub month_number : ℕ → ℕ → ℕ
month_number y m = 12 * (y - 2000) + m - 1

-- the year of the month of number k
abbrev pub month_year : ℕ → ℕ
month_year k = 2000 + k / 12

-- the month, 1 to 12, of the month of number k
abbrev pub month_name : ℕ → ℕ
month_name k = k % 12 + 1

-- the length of the month of number k
unfoldable pub length_of : ℕ → ℕ
length_of k = month_length (month_year k) (month_name k)

-- 'A day number counts from 1 January 2000 (0 ..)':
-- the first day of the month of number k is the sum of the lengths before it
unfoldable pub first_day : ℕ → ℕ
first_day zero = 0
first_day (suc k) = first_day k + length_of k

-- 'Weekday = (day + 5) mod 7, Monday 0'
abbrev pub weekday_of : ℕ → ℕ
weekday_of d = (d + 5) % 7

-- the entries of a table from month i on are the running sums of the month lengths, the first of them s, and the sum after the last is e
unfoldable pub follows_from : ℕ → ℕ → ℕ → List ℕ → Bool
follows_from e i s [] = eqb s e
follows_from e i s (x ∷ xs) = eqb x s && follows_from e (suc i) (s + length_of i) xs

-- 'The first day of each of the 1,200 months stands in a constant table, and that table is shown to follow the Gregorian month lengths',
-- from day 0 to the day after 2099
abbrev pub follows_months : List ℕ → Bool
follows_months xs = follows_from 36525 0 0 xs && eqb (length xs) 1200
