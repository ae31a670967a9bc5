-- The third Friday of a month: its first day, the days from there to a Friday, and 14, by `third-is`. A month's first day is at most 36,525
-- (`first-of-most`), so the sums fit.
use Rattle.expiry.proofs.Fridays.{third-is}
use Rattle.days.proofs.MonthOfDay.{first-of-most}
use native.Mathlib.Omega.{arith}
use mathlib.Core.Path.{sym}
use Rattle.expiry.proofs.third_friday.Goals as goal

pub overflow_add-result : goal.overflow_add-result
overflow_add-result c = omega (arith, first-of-most c.args.month, c.month_start-first.ensures)

pub overflow_add-result-2 : goal.overflow_add-result-2
overflow_add-result-2 c = omega (arith, first-of-most c.args.month, c.month_start-first.ensures)

pub returns : goal.returns
returns c = rw (c.weekday.ensures, c.month_start-first.ensures) (sym (third-is c.args.month))
