-- The calendar after a day was visited with its value. The day stays open on a weekend (`weekend`), where the value is not drawn (`undrawn`), and
-- where closing it would leave a run without a trading day (`spared`); else it is closed (`closes`).
use mathlib.Core.Path.{◌∙◌, sym, ap}
use native.Mathlib.Omega.{arith}
use Rattle.questions.proofs.Bools.{said-no, said-yes}
use Rattle.calendar.specs.Trading.{every_week}
use Rattle.calendar_synthetic.proofs.EachDay.{weekend, undrawn, spared, closes}
use Rattle.calendar_synthetic.proofs.calendar_at.Goals as goal

pub returns-then-weekday-ge5 : goal.returns-then-weekday-ge5
returns-then-weekday-ge5 c = weekend _ _ _ (omega (arith, c.weekday.ensures))

pub returns-then-value-ge8 : goal.returns-then-value-ge8
returns-then-value-ge8 c = undrawn _ _ _ (omega arith)

pub returns-then-not-every_week_trades : goal.returns-then-not-every_week_trades
returns-then-not-every_week_trades c =
    spared _ _ _ (sym (ap every_week c.close_day-next.ensures) ∙ said-no c.every_week_trades.ensures c.if-not-every_week_trades.true)

pub returns : goal.returns
returns c =
    c.close_day-next.ensures
    ∙ closes _ _ _ (omega (arith, c.weekday.ensures)) (omega arith)
    (sym (ap every_week c.close_day-next.ensures) ∙ said-yes c.every_week_trades.ensures c.if-not-every_week_trades.false)
