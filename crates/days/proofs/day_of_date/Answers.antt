-- The day of a date, or the refusal 23 where `is_date` says no. A date's year, month and day are within bounds (`ok`), so its month is one of the
-- 1,200 and the table's entry is the month's first day (`first`); `day-fits` bounds the sum.
use Rattle.days.specs.Gregorian.{first_day, month_number}
use Rattle.days.proofs.Dates.{Valid, valid-facts, day-fits, day-accepted, day-refused}
use Rattle.days.proofs.MonthOfDay.{first-in}
use Rattle.days.specs.Dates.{day_of}
use native.Mathlib.Omega.{arith}
use mathlib.Core.Path.{◌≡◌, ◌∙◌, sym}
use Rattle.days.proofs.day_of_date.Goals as goal

ok : (c : goal.Then-is_date) → Valid c.args.year c.args.month c.args.day
ok c = valid-facts _ _ _ (sym c.is_date.ensures ∙ c.if-is_date.true)

first : (c : goal.After-first_day) → c.first_day.result
    ≡ first_day (month_number c.args.year c.args.month)
first c = c.first_day.ensures ∙ first-in _ (omega (arith, ok c.before))

pub overflow_sub-year : goal.overflow_sub-year
overflow_sub-year c = omega (arith, ok c)

pub overflow_mul-year : goal.overflow_mul-year
overflow_mul-year c = omega (arith, ok c)

pub overflow_add-year : goal.overflow_add-year
overflow_add-year c = omega (arith, ok c)

pub overflow_sub-year-then-is_date : goal.overflow_sub-year-then-is_date
overflow_sub-year-then-is_date c = omega (arith, ok c)

pub overflow_add-result : goal.overflow_add-result
overflow_add-result c = omega (arith, day-fits _ _ _ (ok c.before), first c)

pub overflow_sub-result : goal.overflow_sub-result
overflow_sub-result c = omega (arith, ok c.before)

pub returns-then-is_date : goal.returns-then-is_date
unfolding day_of
returns-then-is_date c = sym (day-accepted _ _ _ (sym c.is_date.ensures ∙ c.if-is_date.true) ∙ simp (sym (first c)))

pub returns-else-is_date : goal.returns-else-is_date
returns-else-is_date c = sym (day-refused _ _ _ (sym c.is_date.ensures ∙ c.if-is_date.false))
