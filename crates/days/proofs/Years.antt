-- Laws of the years: their first days, the year of a day, and both by arithmetic.
-- Assumes nothing.
use mathlib.Core.Path.{◌≡◌, refl, ◌∙◌, sym, ap}
use mathlib.Core.Bool.{Bool, true, false, cond, and-true}
use mathlib.Core.Logic.{◌⊎◌, inl, inr, ⊎_elim}
use Prim.Native.Nat.{ℕ, zero, suc, ◌+◌, ◌-◌, ◌*◌, ◌/◌, ◌%◌, ◌≤◌, ◌<◌}
use native.Mathlib.Omega.{arith}
use lib.Dec.{eqb}
use borrow.Author.Tests.{eqb-true, eqb-false, ne_eqb, lt-ltb, le-ltb}
use Rattle.questions.specs.Search.{one_of}
use Rattle.questions.proofs.Bools.{lt-or-ge}
use Rattle.days.specs.Gregorian.{length_of, first_day, month_length, length_in, leap_year}
use Rattle.days.specs.Dates.{month_of, date_of, first_of, year_of, year_start, day_in_year, march_in, start_in}
use Rattle.days.proofs.MonthTable.{first-rule}
use Rattle.days.proofs.MonthOfDay.{first-suc, first-zero, first-le, first_to, first_out, first-of-le, first-of-most, month-holds, month-past, month-is}

-- the month after j months of the year 2000 + i, and the next
month : (i j n : ℕ) → j < 12 → n ≡ 12 * i + j + 1 → first_day n ≡ first_day (12 * i + j) + month_length (2000 + i) (j + 1)
unfolding length_of
month i j n h e =
    let a : (12 * i + j) / 12 ≡ i = omega arith in
    let b : (12 * i + j) % 12 ≡ j = omega arith in
    let s : n ≡ suc (12 * i + j) = omega arith in
    let l : length_of (12 * i + j) ≡ month_length (2000 + i) (j + 1) = cc in
    ap first_day s ∙ first-suc (12 * i + j) ∙ ap (λ (x : ℕ). first_day (12 * i + j) + x) l

-- a year has 337 days and those of its February
year-length : (i : ℕ) → first_day (12 * i + 12) ≡ first_day (12 * i) + 337 + month_length (2000 + i) 2
unfolding month_length length_in one_of
year-length i =
    let z : first_day (12 * i + 0) ≡ first_day (12 * i) = ap first_day (omega arith) in
    let a1 : first_day (12 * i + 1) ≡ first_day (12 * i + 0) + 31 = month i 0 (12 * i + 1) (omega arith) (omega arith) in
    let a2 = month i 1 (12 * i + 2) (omega arith) (omega arith) in
    let a3 : first_day (12 * i + 3) ≡ first_day (12 * i + 2) + 31 = month i 2 (12 * i + 3) (omega arith) (omega arith) in
    let a4 : first_day (12 * i + 4) ≡ first_day (12 * i + 3) + 30 = month i 3 (12 * i + 4) (omega arith) (omega arith) in
    let a5 : first_day (12 * i + 5) ≡ first_day (12 * i + 4) + 31 = month i 4 (12 * i + 5) (omega arith) (omega arith) in
    let a6 : first_day (12 * i + 6) ≡ first_day (12 * i + 5) + 30 = month i 5 (12 * i + 6) (omega arith) (omega arith) in
    let a7 : first_day (12 * i + 7) ≡ first_day (12 * i + 6) + 31 = month i 6 (12 * i + 7) (omega arith) (omega arith) in
    let a8 : first_day (12 * i + 8) ≡ first_day (12 * i + 7) + 31 = month i 7 (12 * i + 8) (omega arith) (omega arith) in
    let a9 : first_day (12 * i + 9) ≡ first_day (12 * i + 8) + 30 = month i 8 (12 * i + 9) (omega arith) (omega arith) in
    let a10 : first_day (12 * i + 10) ≡ first_day (12 * i + 9) + 31 = month i 9 (12 * i + 10) (omega arith) (omega arith) in
    let a11 : first_day (12 * i + 11) ≡ first_day (12 * i + 10) + 30 = month i 10 (12 * i + 11) (omega arith) (omega arith) in
    let a12 : first_day (12 * i + 12) ≡ first_day (12 * i + 11) + 31 = month i 11 (12 * i + 12) (omega arith) (omega arith) in
    omega arith

february : (y : ℕ) (b : Bool) → leap_year y ≡ b → month_length y 2 ≡ cond b 29 28
unfolding month_length length_in
february y b e = rw e

-- to 2099 every fourth year is a leap year
leap-four : (i : ℕ) → i < 100 → leap_year (2000 + i) ≡ eqb (i % 4) 0
unfolding leap_year
leap-four zero h = refl
leap-four (suc k) h =
    let a : (2000 + suc k) % 4 ≡ suc k % 4 = omega arith in
    let b : ((2000 + suc k) % 100 ≡ 0 → ⊥) = omega arith in
    simp (a, ne_eqb _ _ b, and-true)

-- to the year 2100, a year's first day counts 365 days for each year before it and one day for each leap year before it
pub start_is : (i : ℕ) → i ≤ 100 → first_day (12 * i) ≡ 365 * i + (i + 3) / 4
start_is zero h = first-zero
start_is (suc i) h = go (eqb (i % 4) 0) refl (start_is i (omega arith))
  where
    leap : (b : Bool) → eqb (i % 4) 0 ≡ b → month_length (2000 + i) 2 ≡ cond b 29 28
    leap b e = february (2000 + i) b (leap-four i (omega arith) ∙ e)

    same : first_day (12 * suc i) ≡ first_day (12 * i + 12)
    same = ap first_day (omega arith)

    go : (b : Bool) → eqb (i % 4) 0 ≡ b → first_day (12 * i) ≡ 365 * i + (i + 3) / 4 → first_day (12 * suc i) ≡ 365 * suc i + (suc i + 3) / 4
    go true e ih =
        let f = leap true e in
        let z : i % 4 ≡ 0 = eqb-true _ _ e in
        omega (arith, same, year-length i)
    go false e ih =
        let f = leap false e in
        let z : (i % 4 ≡ 0 → ⊥) = eqb-false _ _ e in
        omega (arith, same, year-length i)

-- 1 January by arithmetic, and outside 2000 to 2099
pub year-start-is : (y : ℕ) → 2000 ≤ y → y ≤ 2100 → year_start y ≡ 365 * (y - 2000) + (y - 2000 + 3) / 4
unfolding year_start
year-start-is y a b = first_to (12 * (y - 2000)) (omega arith) ∙ start_is (y - 2000) (omega arith)

-- a year before 2000 is given the start 0
pub year-start-before : (y : ℕ) → y < 2000 → year_start y ≡ 0
unfolding year_start
year-start-before y h =
    let z : 12 * (y - 2000) ≡ 0 = omega arith in
    ap first_of z ∙ first_to 0 (omega arith) ∙ first-zero

-- a year from 2100 on is given the start 36,525
pub year-start-past : (y : ℕ) → 2100 ≤ y → year_start y ≡ 36525
unfolding year_start
year-start-past y h = first_out (12 * (y - 2000)) (omega arith)

-- the year starts are ordered as the years
pub year-start-le : (a b : ℕ) → a ≤ b → year_start a ≤ year_start b
unfolding year_start
year-start-le a b h = first-of-le (12 * (a - 2000)) (12 * (b - 2000)) (omega arith)

-- the start of any year is at most 36,525
pub year-start-most : (y : ℕ) → year_start y ≤ 36525
unfolding year_start
year-start-most y = first-of-most (12 * (y - 2000))

-- the year of a day by arithmetic
pub year-of-is : (d : ℕ) → d < 36525 → year_of d ≡ 4 * d / 1461 + 2000
unfolding year_of
year-of-is d l =
    let m = month_of d in
    let h = month-holds d l in
    let i = m / 12 in
    let same : first_day (12 * suc i) ≡ first_day (12 * i + 12) = ap first_day (omega arith) in
    let a = start_is i (omega arith) in
    let b = start_is (suc i) (omega arith) in
    let lo = first-le (12 * i) m (omega arith) in
    let hi = first-le (suc m) (12 * i + 12) (omega arith) in
    omega arith

-- a day after 2099 has the year 2100
pub year-of-past : (d : ℕ) → 36525 ≤ d → year_of d ≡ 2100
unfolding year_of
year-of-past d h = let e = month-past d h in omega arith

pub record InYear (d : ℕ) : Type 0 where
  -- the year is 2000 or later
  pub low : 2000 ≤ year_of d
  -- the year is 2099 or earlier
  pub high : year_of d < 2100
  -- the day is 1 January of its year or later
  pub start : year_start (year_of d) ≤ d
  -- the day is before 1 January of the next year
  pub end : d < year_start (year_of d + 1)

-- a day of 2000 to 2099 lies in the year that it is given
pub in-year : (d : ℕ) → d < 36525 → InYear d
in-year d l =
    let y = year-of-is d l in
    let a = year-start-is (year_of d) (omega arith) (omega arith) in
    let b = year-start-is (year_of d + 1) (omega arith) (omega arith) in
    record { low = omega arith; high = omega arith; start = omega arith; end = omega arith }

-- no day is before its year
pub year-started : (d : ℕ) → year_start (year_of d) ≤ d
year-started d = go (lt-or-ge d 36525)
  where
    go : (d < 36525) ⊎ (36525 ≤ d) → year_start (year_of d) ≤ d
    go (inl l) = (in-year d l).start
    go (inr l) = omega (arith, year-start-most (year_of d))

-- a year has 365 or 366 days
pub in-year-below : (d : ℕ) → d < 36525 → day_in_year d < 366
unfolding day_in_year
in-year-below d l =
    let v = in-year d l in
    let a = year-start-is (year_of d) (omega arith) (omega arith) in
    let b = year-start-is (year_of d + 1) (omega arith) (omega arith) in
    omega arith

-- the months of a year by arithmetic
pub start-early : (march j : ℕ) → j < 2 → start_in march j ≡ 31 * j
unfolding start_in
start-early march j h = rw (lt-ltb j 2 h)

-- from March on, a month's first day in the year is counted from the first of March, at 153 days for five months
pub start-late : (march j : ℕ) → 2 ≤ j → start_in march j ≡ march + (153 * j - 304) / 5
unfolding start_in
start-late march j h = rw (le-ltb j 2 h)

-- the month, from 0, of a day of the year before March, and from March on
pub early-month : (march n : ℕ) → (59 ≤ march) × (march ≤ 60) × (n ≤ march + 305) → n < march
    → (n / 31 < 12) × (start_in march (n / 31) ≤ n) × (n / 31 < 11 → n < start_in march (n / 31 + 1))
early-month march n h l = (omega (arith, h), omega (arith, start-early march (n / 31) (omega (arith, h))), λ m. go (lt-or-ge (n / 31 + 1) 2))
  where
    go : (n / 31 + 1 < 2) ⊎ (2 ≤ n / 31 + 1) → n < start_in march (n / 31 + 1)
    go (inl m) = omega (arith, start-early march (n / 31 + 1) m)
    go (inr m) =
        let e : n / 31 + 1 ≡ 2 = omega (arith, h) in
        rw e (omega (arith, start-late march 2 (omega arith)))

-- from March on, the quotient by 153 is a month that starts by the day of the year; the next, if any, starts after the day
pub late-month : (march n : ℕ) → (59 ≤ march) × (march ≤ 60) × (n ≤ march + 305) → march ≤ n
    → ((5 * (n - march) + 308) / 153 < 12) × (start_in march ((5 * (n - march) + 308) / 153) ≤ n)
    × ((5 * (n - march) + 308) / 153 < 11 → n < start_in march ((5 * (n - march) + 308) / 153 + 1))
late-month march n h l =
    let r = (5 * (n - march) + 308) / 153 in
    (omega (arith, h), omega (arith, start-late march r (omega arith)), λ m. omega (arith, start-late march (r + 1) (omega arith)))

first-in-year : (i j : ℕ) → i < 100 → j < 12 → first_day (12 * i + j) ≡ 365 * i + (i + 3) / 4 + start_in (march_in i) j
first-in-year i j h l =
    let a : (12 * i + j) / 12 ≡ i = omega arith in
    let b : (12 * i + j) % 12 ≡ j = omega arith in
    first-rule (12 * i + j) (omega arith) ∙ rw (a, b)

-- day n of the year 2000 + i, from 0
module _ (d i march n : ℕ) (l : d < 36525) (q : i ≡ year_of d - 2000) (e : march ≡ march_in i) (f : n ≡ day_in_year d) where
  year-begins : (i < 100) × (year_of d ≡ 2000 + i) × (d ≡ 365 * i + (i + 3) / 4 + n)
  unfolding day_in_year
  year-begins =
      let v = in-year d l in
      (omega arith, omega arith, omega (arith, year-start-is (year_of d) (omega arith) (omega arith)))

  year-ends : d < 365 * (i + 1) + (i + 4) / 4
  year-ends =
      let v = in-year d l in
      omega (arith, year-start-is (year_of d + 1) (omega arith) (omega arith))

  -- the year has 306 days from March on
  pub days-from-march : (59 ≤ march) × (march ≤ 60) × (n ≤ march + 305)
  unfolding march_in
  days-from-march = go (eqb (i % 4) 0) refl
    where
      go : (b : Bool) → eqb (i % 4) 0 ≡ b → (59 ≤ march) × (march ≤ 60) × (n ≤ march + 305)
      go true t =
          let m : march ≡ 60 = e ∙ rw t in
          (omega arith, omega arith, omega (arith, year-begins, year-ends))
      go false t =
          let m : march ≡ 59 = e ∙ rw t in
          let z : (i % 4 ≡ 0 → ⊥) = eqb-false _ _ t in
          let w : (i + 4) / 4 ≡ (i + 3) / 4 = omega arith in
          (omega arith, omega arith, omega (arith, year-begins, year-ends))

  -- its month is the one that starts by it and of which the next starts after it
  module _ (j : ℕ) (h : (j < 12) × (start_in march j ≤ n) × (j < 11 → n < start_in march (j + 1))) where
    starts : (k : ℕ) → k < 12 → first_day (12 * i + k) ≡ 365 * i + (i + 3) / 4 + start_in march k
    starts k m = first-in-year i k year-begins.0 m ∙ ap (λ (x : ℕ). 365 * i + (i + 3) / 4 + start_in x k) (sym e)

    -- the month found by arithmetic in the day's year is the month of the day
    pub month-by-rule : 12 * i + j ≡ month_of d
    month-by-rule = sym (month-is (12 * i + j) d (omega (arith, year-begins, h)) (omega (arith, starts j h.0, year-begins, h)) (go (lt-or-ge j 11)))
      where
        go : (j < 11) ⊎ (11 ≤ j) → d < first_day (suc (12 * i + j))
        go (inl m) =
            let s : first_day (suc (12 * i + j)) ≡ first_day (12 * i + (j + 1)) = ap first_day (omega arith) in
            omega (arith, s, h.2 m, year-begins, starts (j + 1) (omega arith))
        go (inr m) =
            let s : first_day (suc (12 * i + j)) ≡ first_day (12 * (i + 1)) = ap first_day (omega (arith, h)) in
            omega (arith, s, start_is (i + 1) (omega (arith, year-begins)), year-ends)

    -- the date of a day has the year, the month and the day of the month that the arithmetic gives
    pub date-by-rule : date_of d ≡ record { year = 2000 + i; month = j + 1; day = n - start_in march j + 1 }
    unfolding date_of
    date-by-rule =
        let y : (12 * i + j) / 12 ≡ i = omega (arith, h) in
        let m : (12 * i + j) % 12 ≡ j = omega (arith, h) in
        let z : d - first_day (12 * i + j) ≡ n - start_in march j = omega (arith, starts j h.0, year-begins) in
        rw (← month-by-rule, y, m, z)

-- a day is in a year or later where the year has started, and before it where it has not
pub year-from : (y d : ℕ) → d < 36525 → year_start y ≤ d → y ≤ year_of d
year-from y d l h =
    ⊎_elim (λ a. absurd (omega (arith, (in-year d l).end, year-start-le (year_of d + 1) y (omega arith)))) (λ a. a)
    (lt-or-ge (year_of d) y)

-- a day before 1 January of a year has an earlier year
pub year-until : (y d : ℕ) → d < year_start y → year_of d < y
year-until y d h =
    let l : d < 36525 = omega (arith, year-start-most y) in
    ⊎_elim (λ a. a) (λ a. absurd (omega (arith, (in-year d l).start, year-start-le y (year_of d) a)))
    (lt-or-ge (year_of d) y)
