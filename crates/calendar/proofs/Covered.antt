-- What a day in the cover gives: its year, and the slot of its bit.
-- Assumes nothing.
use mathlib.Core.Path.{◌≡◌, ◌∙◌, sym, ap}
use mathlib.Core.Bool.{true, false, ◌&&◌}
use Prim.Native.Nat.{ℕ, ◌+◌, ◌-◌, ◌/◌, ◌%◌, ◌≤◌, ◌<◌}
use native.Mathlib.Omega.{arith}
use lib.Dec.{leb, ltb}
use borrow.Author.Tests.{leb-true, le-leb, ltb-true, lt-ltb, le-ltb}
use Rattle.questions.proofs.Bools.{is_false, same_test, both, and_both}
use Rattle.days.specs.Gregorian.{weekday_of}
use Rattle.days.specs.Dates.{year_of, year_start, day_in_year}
use Rattle.days.proofs.Years.{in-year, in-year-below, year-from, year-until, year-start-le, year-start-most, year-start-past, year-started}
use Rattle.calendar.specs.declared.Cover.{Cover}
use Rattle.calendar.specs.Trading.{valid_cover, cover_start, cover_end, in_cover, slot_of, may_close, may_be_closed}

-- 1 to 16 years from 2000 to 2099
pub record Years (c : Cover) : Type 0 where
  -- the cover has at least one year
  pub some : 1 ≤ c.years
  -- the cover has at most 16 years
  pub most : c.years ≤ 16
  -- the cover's first year is 2000 or later
  pub low : 2000 ≤ c.first_year
  -- the cover ends by the end of 2099
  pub high : c.first_year + c.years ≤ 2100

-- a cover that passes the test has 1 to 16 years from 2000 to 2099
pub years : (c : Cover) → valid_cover c ≡ true → Years c
unfolding valid_cover
years c e =
    let (a, e1) = both _ _ e in
    let (b, e2) = both _ _ e1 in
    let (f, g) = both _ _ e2 in
    record { some = leb-true _ _ a; most = leb-true _ _ b; low = leb-true _ _ f; high = leb-true _ _ g }

-- a day of the cover is on or after the cover's start and before its end
pub cover-facts : (c : Cover) (d : ℕ) → in_cover c d ≡ true → (cover_start c ≤ d) × (d < cover_end c)
unfolding in_cover
cover-facts c d e =
    let (a, b) = both _ _ e in
    (leb-true _ _ a, ltb-true _ _ b)

-- a cover's start is no later than its end
pub start-end : (c : Cover) → cover_start c ≤ cover_end c
unfolding cover_start cover_end
start-end c = year-start-le c.first_year (c.first_year + c.years) (omega arith)

pub record Covered (c : Cover) (d : ℕ) : Type 0 where
  -- the day is a day of 2000 to 2099
  pub day : d < 36525
  -- the day's year is the cover's first year or later
  pub year-low : c.first_year ≤ year_of d
  -- the day's year is before the first year after the cover
  pub year-high : year_of d < c.first_year + c.years

-- a day of the cover is a day of 2000 to 2099 and its year is one of the cover's years
pub covered : (c : Cover) (d : ℕ) → in_cover c d ≡ true → Covered c d
unfolding cover_start cover_end
covered c d e =
    let f = cover-facts c d e in
    let l : d < 36525 = omega (arith, year-start-most (c.first_year + c.years)) in
    record { day = l; year-low = year-from c.first_year d l f.0; year-high = year-until (c.first_year + c.years) d f.1 }

module _ (c : Cover) (d : ℕ) (v : Covered c d) where
  -- the slot's year of the cover, and its day of the year
  pub slot-year : slot_of c d / 368 ≡ year_of d - c.first_year
  unfolding slot_of
  slot-year = omega (arith, in-year-below d v.day)

  -- the slot's remainder by 368 is the day of the year
  pub slot-day : slot_of c d % 368 ≡ day_in_year d
  unfolding slot_of
  slot-day = omega (arith, in-year-below d v.day)

  -- in a valid cover the slot of a day of the cover is one of the 5,888 slots of the map
  pub slot-below : valid_cover c ≡ true → slot_of c d < 5888
  unfolding slot_of
  slot-below e = omega (arith, in-year-below d v.day, years c e)

  -- the slot of a Monday to Friday may be marked, and no other day's
  pub slot-may : may_be_closed c (slot_of c d) ≡ ltb (weekday_of d) 5
  unfolding may_be_closed may_close day_in_year
  slot-may =
      let y : c.first_year + (year_of d - c.first_year) ≡ year_of d = omega (arith, v.year-low) in
      let s : year_start (year_of d) + (d - year_start (year_of d)) ≡ d = omega (arith, year-started d) in
      let k : ltb (year_of d - c.first_year) c.years ≡ true = lt-ltb (year_of d - c.first_year) c.years (omega (arith, v.year-low, v.year-high)) in
      let e : ltb d (year_start (year_of d + 1)) ≡ true = lt-ltb _ _ (in-year d v.day).end in
      simp (slot-year, slot-day, y, s, k, e)

-- a number that is no day of the year may not be marked, and any other may be where it is a Monday to Friday
pub may-not : (y n : ℕ) → year_start (y + 1) ≤ year_start y + n → may_close y n ≡ false
unfolding may_close
may-not y n h = rw (le-ltb _ _ h)

-- a day of the year may be closed exactly where it is a Monday to Friday
pub may-day : (y n : ℕ) → year_start y + n < year_start (y + 1) → may_close y n ≡ ltb (weekday_of (year_start y + n)) 5
unfolding may_close
may-day y n h = rw (lt-ltb _ _ h)

-- no day of a year from 2100 on may be closed
pub may_past : (y n : ℕ) → 2100 ≤ y → may_close y n ≡ false
may_past y n h = may-not y n (omega (arith, year-start-past y h, year-start-past (y + 1) (omega arith)))

-- two days with one slot are one day
pub slot_same : (c : Cover) (d e : ℕ) → Covered c d → Covered c e → slot_of c d ≡ slot_of c e → d ≡ e
unfolding day_in_year
slot_same c d e v w q =
    let y : year_of d ≡ year_of e = omega (arith, slot-year c d v, slot-year c e w, ap (λ (s : ℕ). s / 368) q) in
    let s : year_start (year_of d) ≡ year_start (year_of e) = ap year_start y in
    let n : d - year_start (year_of d) ≡ e - year_start (year_of e) = sym (slot-day c d v) ∙ ap (λ (s : ℕ). s % 368) q ∙ slot-day c e w in
    omega (arith, year-started d, year-started e)

-- a day is in the cover by its year
pub covers-past : (c : Cover) (d : ℕ) → 36525 ≤ d → in_cover c d ≡ false
covers-past c d h = is_false (in_cover c d) (λ e. absurd (omega (arith, h, (covered c d e).day)))

-- a day of a year before the cover's first year is not in the cover
pub covers-early : (c : Cover) (d : ℕ) → year_of d < c.first_year → in_cover c d ≡ false
covers-early c d h = is_false (in_cover c d) (λ e. absurd (omega (arith, h, (covered c d e).year-low)))

-- a day to 2099 of the first year or later is in the cover exactly where its year is fewer years after than the cover has
pub covers-is : (c : Cover) (d : ℕ) → d < 36525 → c.first_year ≤ year_of d → ltb (year_of d - c.first_year) c.years ≡ in_cover c d
unfolding in_cover cover_start cover_end
covers-is c d l h =
    same_test _ _
    (λ e.
    let y : year_of d - c.first_year < c.years = ltb-true (year_of d - c.first_year) c.years e in
    let v = in-year d l in
    and_both (le-leb (year_start c.first_year) d (omega (arith, v.start, year-start-le c.first_year (year_of d) h)))
    (lt-ltb d (year_start (c.first_year + c.years)) (omega (arith, v.end, year-start-le (year_of d + 1) (c.first_year + c.years) (omega arith)))))
    (λ e. let v = covered c d (fold e) in lt-ltb (year_of d - c.first_year) c.years (omega (arith, v.year-high, v.year-low)))
  where
    fold : (leb (year_start c.first_year) d && ltb d (year_start (c.first_year + c.years))) ≡ true → in_cover c d ≡ true
    fold e = e
