-- The last trading day of a month. The usual day is the month's anchor (`exception`); it is the answer where it trades (`there`), else the latest
-- trading day before it is (`before`). A third Friday is at least day 14 (`third-is`), so there is a day before it.
use Rattle.expiry.proofs.Fridays.{third-is}
use Rattle.expiry.proofs.Stepping.{there, before, exception}
use native.Mathlib.Omega.{arith}
use mathlib.Core.Path.{◌∙◌, sym}
use Rattle.expiry.proofs.month_last_day_in.Goals as goal

pub italian_exception-usual-requires : goal.italian_exception-usual-requires
italian_exception-usual-requires c = omega (arith, c.third_friday-friday.ensures, third-is c.args.month)

pub returns-then-is_trading_day_in : goal.returns-then-is_trading_day_in
returns-then-is_trading_day_in c =
    let at-exception = c in
    rw (← exception _ _ _ _ at-exception.third_friday-friday.ensures at-exception.italian_exception-usual.ensures)
    (there _ _ (sym c.is_trading_day_in.ensures ∙ c.if-is_trading_day_in.true))

pub returns : goal.returns
returns c =
    let at-exception = c in
    rw (← exception _ _ _ _ at-exception.third_friday-friday.ensures at-exception.italian_exception-usual.ensures)
    (c.trading_day_before_in.ensures ∙ before _ _ (sym c.is_trading_day_in.ensures ∙ c.if-is_trading_day_in.false))
