-- The date of a day, or the refusal 23 from 36,525 on. Of another day the year comes by division, and `date-by-rule` says that the month and the
-- day of the month, found from the day's number in the year and the first of March, are the definition's; `in-year` bounds the sums.
use Rattle.days.proofs.Years.{in-year, in-year-below, days-from-march, date-by-rule}
use Rattle.days.proofs.Dates.{date-accepted, date-refused}
use Prim.Native.Nat.{ℕ, ◌-◌}
use native.Mathlib.Omega.{arith}
use mathlib.Core.Path.{◌∙◌, sym, ap}
use Rattle.days.proofs.date_of_day.Goals as goal

-- ---- the refusal: the day is after 2099
pub returns-then-day-ge36525 : goal.returns-then-day-ge36525
returns-then-day-ge36525 c = sym (date-refused _ c.if-day-ge36525.true)

-- ---- the year, the day in it, and its month
pub overflow_sub-i : goal.overflow_sub-i
overflow_sub-i c = omega (arith, in-year _ c.if-day-ge36525.false)

pub month_in_year-m-requires : goal.month_in_year-m-requires
month_in_year-m-requires c =
    days-from-march _ _ _ _ c.if-day-ge36525.false (ap (λ (y : ℕ). y - 2000) c.year_of-i.ensures) c.march_in-march.ensures.0
    c.day_in_year-n.ensures

-- ---- the fields of the date
pub start_in_year-requires : goal.start_in_year-requires
start_in_year-requires c = (c.march_in-march.ensures.1, c.month_in_year-m.ensures.0)

pub overflow_sub-result : goal.overflow_sub-result
overflow_sub-result c = omega (arith, c.month_in_year-m.ensures)

pub overflow_add-result-3 : goal.overflow_add-result-3
overflow_add-result-3 c = omega (arith, in-year-below _ c.if-day-ge36525.false)

-- ---- the date
pub returns : goal.returns
returns c =
    let before-5 = c in
    let d = date-by-rule _ _ _ _ before-5.if-day-ge36525.false (ap (λ (y : ℕ). y - 2000) c.year_of-i.ensures)
    c.march_in-march.ensures.0 c.day_in_year-n.ensures _ c.month_in_year-m.ensures in
    sym (date-accepted _ before-5.if-day-ge36525.false ∙ simp (d, sym c.start_in_year.ensures.0))
