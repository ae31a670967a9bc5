-- How many days a year has, and that they end by day 36525; none where the year is not one of 2000 to 2099.
-- From 2100 on a year and the next both start on day 36525 (year-start-past); the other returns are found by search from what `year_start` ensures.
use native.Mathlib.Omega.{arith}
use Prim.Native.Nat.{◌+◌}
use Rattle.days.proofs.Years.{year-start-past}
use Rattle.file_intake.proofs.days_in.Goals as goal

pub returns-then-year-ge2100 : goal.returns-then-year-ge2100
returns-then-year-ge2100 c =
    let y = c.args.year in
    (omega (arith, year-start-past y c.if-year-ge2100.true, year-start-past (y + 1) (omega arith)), omega (arith, year-start-past y c.if-year-ge2100.true))
