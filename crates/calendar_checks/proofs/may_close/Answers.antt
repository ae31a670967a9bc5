-- Whether day n of a year is one of the year's and a Monday to Friday. No year from 2100 on has days (`may_past`); a day from the next year's start
-- on is none of the year's (`may-not`); of the others the weekday decides (`may-day`).
use Rattle.calendar.proofs.Covered.{may-not, may-day, may_past}
use native.Mathlib.Omega.{arith}
use mathlib.Core.Path.{sym}
use Rattle.calendar_checks.proofs.may_close.Goals as goal

pub returns-then-year-ge2100 : goal.returns-then-year-ge2100
returns-then-year-ge2100 c = sym (may_past _ _ c.if-year-ge2100.true)

pub returns-then-end-n : goal.returns-then-end-n
returns-then-end-n c = sym (may-not _ _ (omega (arith, c.year_start-end.ensures.0, c.if-end-n.true)))

pub returns-then-end-n-2 : goal.returns-then-end-n-2
returns-then-end-n-2 c = sym (may-not _ _ (omega (
  arith,
  c.year_start-end.ensures.0,
  c.year_start-start.ensures.0,
  c.if-end-n.false,
  c.if-end-n-2.true,
)))

pub returns : goal.returns
returns c =
    let start = c.year_start-start.ensures.0 in
    let end = c.year_start-end.ensures.0 in
    rw (c.weekday.ensures, start) (sym (may-day _ _ (omega (arith, c.if-end-n.false, c.if-end-n-2.false))))
