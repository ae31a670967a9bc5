-- The year of a day; 2100 after 2099 (`year-of-past`). Of another day it is 4 · day / 1461 + 2000, by `year-of-is`.
use Rattle.days.proofs.Years.{year-of-is, year-of-past}
use mathlib.Core.Path.{sym}
use Rattle.days.proofs.year_of.Goals as goal

pub returns-then-day-ge36525 : goal.returns-then-day-ge36525
returns-then-day-ge36525 c = sym (year-of-past _ c.if-day-ge36525.true)

pub returns : goal.returns
returns c = sym (year-of-is _ c.if-day-ge36525.false)
