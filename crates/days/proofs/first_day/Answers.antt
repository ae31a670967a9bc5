-- The first day of a month; 36,525 for a month after 2099. The table follows the month lengths (`first_days` ensures it), so by `first-at` each
-- of its entries is the first day of its month.
use Rattle.days.proofs.MonthTable.{first-at}
use Rattle.days.proofs.MonthOfDay.{first-in, first_out}
use mathlib.Core.Path.{◌∙◌, sym}
use Rattle.days.proofs.first_day.Goals as goal

pub returns-then-month-ge1200 : goal.returns-then-month-ge1200
returns-then-month-ge1200 c = sym (first_out _ c.if-month-ge1200.true)

pub returns : goal.returns
returns c = first-at c.first_days-first.result c.first_days-first.ensures _ c.if-month-ge1200.false ∙ sym (first-in _ c.if-month-ge1200.false)
