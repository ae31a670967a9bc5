-- The first day of a month by arithmetic; 36,525 for a month after 2099. By `first-rule` the first day of each of the 1,200 months is this sum.
use Rattle.days.proofs.MonthTable.{first-rule}
use Rattle.days.proofs.MonthOfDay.{first-in, first_out}
use native.Mathlib.Omega.{arith}
use mathlib.Core.Path.{◌∙◌, sym}
use Rattle.days.proofs.month_start.Goals as goal

pub returns-then-month-ge1200 : goal.returns-then-month-ge1200
returns-then-month-ge1200 c = sym (first_out _ c.if-month-ge1200.true)

pub start_in_year-requires : goal.start_in_year-requires
start_in_year-requires c = (omega arith, omega arith)

pub returns : goal.returns
returns c = sym (first-in _ c.if-month-ge1200.false ∙ first-rule _ c.if-month-ge1200.false ∙
    simp (sym c.start_in_year.ensures.0, sym c.march_in.ensures.0))
