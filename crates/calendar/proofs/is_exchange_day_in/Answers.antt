-- Whether a day is an exchange day, by the lent maps: a trading day is one (`exchange-trading`); another is one where the second map has it
-- (`exchange-other`).
use Rattle.calendar.proofs.SecondMap.{exchange-trading, exchange-other}
use mathlib.Core.Path.{◌∙◌, sym}
use Rattle.calendar.proofs.is_exchange_day_in.Goals as goal

pub returns-then-is_trading_day_in : goal.returns-then-is_trading_day_in
returns-then-is_trading_day_in c = sym (exchange-trading _ _ (sym c.is_trading_day_in.ensures ∙ c.if-is_trading_day_in.true))

pub returns : goal.returns
returns c = c.is_marked.ensures ∙ sym (exchange-other _ _ (sym c.is_trading_day_in.ensures ∙ c.if-is_trading_day_in.false))
