-- Whether a month is in the set of a step of kinds 0 to 3. Each case of the `match` has its set's law: every month, quarters, half years, and for the
-- last, which is 3, Decembers.
use Rattle.listing.proofs.ListLoops.{set_all, set-quarters, set-halves, set-decembers}
use native.Mathlib.Omega.{arith}
use mathlib.Core.Path.{◌≡◌}
use Rattle.listing.proofs.in_month_set.Goals as goal

pub returns-in-0 : goal.returns-in-0
returns-in-0 c = rw c.in-0.is (set_all c.args.month)

pub returns-in-1 : goal.returns-in-1
returns-in-1 c = rw c.in-1.is (set-quarters c.args.month)

pub returns-in-2 : goal.returns-in-2
returns-in-2 c = rw c.in-2.is (set-halves c.args.month)

pub returns-in_default : goal.returns-in_default
returns-in_default c =
    let no = c.in_default.in_default-own.rest in
    let e : c.args.step ≡ 3 = omega arith in
    rw e (set-decembers c.args.month)
