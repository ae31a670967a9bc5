-- The months of a step's set lie 1, 3, 6 or 12 months apart, so the next of them follows from the month's remainder.
use native.Mathlib.Omega.{arith}
use mathlib.Core.Path.{◌≡◌}
use Rattle.listing.proofs.NextMonths.{to-all, to-quarters, to-halves, to-decembers}
use Rattle.listing.proofs.months_to_set.Goals as goal

pub returns-in-0 : goal.returns-in-0
returns-in-0 c = rw c.in-0.is (to-all c.args.month)

pub returns-in-1 : goal.returns-in-1
returns-in-1 c = rw c.in-1.is (to-quarters c.args.month)

pub returns-in-2 : goal.returns-in-2
returns-in-2 c = rw c.in-2.is (to-halves c.args.month)

pub returns-in_default : goal.returns-in_default
returns-in_default c =
    let no = c.in_default.in_default-own.rest in
    let e : c.args.step ≡ 3 = omega arith in
    rw e (to-decembers c.args.month)
