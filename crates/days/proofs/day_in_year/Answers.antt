-- The day's number in its year, from 0: the day less 1 January of its year. No day is before its year (`year-started`), so the difference is one.
use Rattle.days.proofs.Years.{year-started}
use Rattle.days.specs.Dates.{day_in_year, year_start}
use native.Mathlib.Omega.{arith}
use mathlib.Core.Path.{ap}
use Rattle.days.proofs.day_in_year.Goals as goal

pub overflow_sub-result : goal.overflow_sub-result
overflow_sub-result c = omega (arith, year-started c.args.day, c.year_start.ensures.0, ap year_start c.year_of.ensures)

pub returns : goal.returns
unfolding day_in_year
returns c = simp (c.year_start.ensures.0, c.year_of.ensures)
