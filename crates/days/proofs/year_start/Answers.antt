-- 1 January of a year, at most 36,525: 0 before 2000 and 36,525 after 2099, as the definition has it; between them by arithmetic (`year-start-is`).
use Rattle.days.proofs.Years.{year-start-is, year-start-before, year-start-past}
use native.Mathlib.Omega.{arith}
use mathlib.Core.Path.{sym}
use Rattle.days.proofs.year_start.Goals as goal

pub returns-then-year-lt2000 : goal.returns-then-year-lt2000
returns-then-year-lt2000 c = (sym (year-start-before _ c.if-year-lt2000.true), omega arith)

pub returns-then-year-ge2100 : goal.returns-then-year-ge2100
returns-then-year-ge2100 c = (sym (year-start-past _ c.if-year-ge2100.true), omega arith)

pub returns : goal.returns
returns c = let e = year-start-is _ c.if-year-lt2000.false (omega arith) in (sym e, omega arith)
