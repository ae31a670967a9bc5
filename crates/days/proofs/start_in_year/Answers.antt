-- The first day of month j of a year, counted from the year's first day: 31 · j before March (`start-early`), by fifths of 153 from March on
-- (`start-late`). It is at most 366 by arithmetic.
use Rattle.days.proofs.Years.{start-early, start-late}
use native.Mathlib.Omega.{arith}
use mathlib.Core.Path.{sym}
use Rattle.days.proofs.start_in_year.Goals as goal

pub returns-then-j-lt2 : goal.returns-then-j-lt2
returns-then-j-lt2 c = (sym (start-early _ _ c.if-j-lt2.true), omega arith)

pub returns : goal.returns
returns c = (sym (start-late _ _ c.if-j-lt2.false), omega (arith, c.requires))
