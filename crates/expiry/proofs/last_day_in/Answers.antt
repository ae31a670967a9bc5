-- The anchor with no steps back where it is a trading day (`there`), else the latest trading day before it (`before`): the definition's two cases.
use Rattle.expiry.proofs.Stepping.{there, before}
use mathlib.Core.Path.{◌∙◌, sym}
use Rattle.expiry.proofs.last_day_in.Goals as goal

pub returns-then-is_trading_day_in : goal.returns-then-is_trading_day_in
returns-then-is_trading_day_in c = there _ _ (sym c.is_trading_day_in.ensures ∙ c.if-is_trading_day_in.true)

pub returns : goal.returns
returns c = c.trading_day_before_in.ensures ∙ before _ _ (sym c.is_trading_day_in.ensures ∙ c.if-is_trading_day_in.false)
