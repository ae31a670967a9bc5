-- A month's third Friday, for the Italian groups the day before, by `exception`. A third Friday is at least day 14 (`third-is`), so there is a day
-- before it.
use Rattle.expiry.proofs.Fridays.{third-is}
use Rattle.expiry.proofs.Stepping.{exception}
use native.Mathlib.Omega.{arith}
use Rattle.expiry.proofs.month_anchor.Goals as goal

pub italian_exception-requires : goal.italian_exception-requires
italian_exception-requires c = omega (arith, c.third_friday.ensures, third-is c.args.month)

pub returns : goal.returns
returns c = exception _ _ _ _ c.third_friday.ensures c.italian_exception.ensures
