-- The number of weekly Fridays before a day: a seventh of the day, less one for each month that is over, and less one more where the month's third
-- Friday is passed (`before-passed`), else not (`before-ahead`). Both say too that nothing is taken from a smaller number.
use Rattle.listing.proofs.Weekly.{before-passed, before-ahead}
use native.Mathlib.Omega.{arith}
use Rattle.listing.proofs.weekly_before.Goals as goal

pub overflow_sub-result : goal.overflow_sub-result
overflow_sub-result c = omega (arith, (before-passed _ _ _ c.month_of-month.ensures c.third_friday.ensures c.if-third_friday-day.true).0)

pub overflow_sub-result-then-third_friday-day : goal.overflow_sub-result-then-third_friday-day
overflow_sub-result-then-third_friday-day c = omega (arith, (before-passed _ _ _ c.month_of-month.ensures c.third_friday.ensures c.if-third_friday-day.true).0)

pub returns-then-third_friday-day : goal.returns-then-third_friday-day
returns-then-third_friday-day c = (before-passed _ _ _ c.month_of-month.ensures c.third_friday.ensures c.if-third_friday-day.true).1

pub overflow_sub-result-2 : goal.overflow_sub-result-2
overflow_sub-result-2 c = (before-ahead _ _ _ c.month_of-month.ensures c.third_friday.ensures c.if-third_friday-day.false).0

pub returns : goal.returns
returns c = (before-ahead _ _ _ c.month_of-month.ensures c.third_friday.ensures c.if-third_friday-day.false).1
