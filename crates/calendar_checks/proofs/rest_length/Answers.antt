-- How many days a year has after 336: 30 where 4 divides it, else 29. By arithmetic on the two starts of the years (`year-start-is`).
use Rattle.days.proofs.Years.{year-start-is}
use Prim.Native.Nat.{◌+◌}
use native.Mathlib.Omega.{arith}
use Rattle.calendar_checks.proofs.rest_length.Goals as goal

pub returns-then-year-eq0 : goal.returns-then-year-eq0
returns-then-year-eq0 c =
    let y = c.args.year in
    (omega (arith, year-start-is y (omega arith) (omega arith), year-start-is (y + 1) (omega arith) (omega arith)), omega arith, omega arith)

pub returns : goal.returns
returns c =
    let y = c.args.year in
    (omega (arith, year-start-is y (omega arith) (omega arith), year-start-is (y + 1) (omega arith) (omega arith)), omega arith, omega arith)
