-- The month number of a day; 1,200 after 2099 (`month-past`). Of another day `month-by-rule`: 12 for each year before, and the month that
-- `month_in_year` finds. The sums are bounded by `in-year`.
use Rattle.days.proofs.Years.{in-year, days-from-march, month-by-rule}
use Rattle.days.proofs.MonthOfDay.{month-past}
use Prim.Native.Nat.{ℕ, ◌-◌}
use native.Mathlib.Omega.{arith}
use mathlib.Core.Path.{sym, ap}
use Rattle.days.proofs.month_of.Goals as goal

pub returns-then-day-ge36525 : goal.returns-then-day-ge36525
returns-then-day-ge36525 c = sym (month-past _ c.if-day-ge36525.true)

pub overflow_sub-i : goal.overflow_sub-i
overflow_sub-i c = omega (arith, in-year _ c.if-day-ge36525.false)

pub overflow_mul-result : goal.overflow_mul-result
overflow_mul-result c = omega (arith, in-year _ c.if-day-ge36525.false)

pub month_in_year-requires : goal.month_in_year-requires
month_in_year-requires c =
    days-from-march _ _ _ _ c.if-day-ge36525.false (ap (λ (y : ℕ). y - 2000) c.year_of-i.ensures)
    c.march_in.ensures.0 c.day_in_year.ensures

pub overflow_add-result : goal.overflow_add-result
overflow_add-result c = omega (arith, in-year _ c.if-day-ge36525.false)

pub returns : goal.returns
returns c =
    month-by-rule _ _ _ _ c.if-day-ge36525.false (ap (λ (y : ℕ). y - 2000) c.year_of-i.ensures)
    c.march_in.ensures.0 c.day_in_year.ensures _ c.month_in_year.ensures
