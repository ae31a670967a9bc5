-- The last trading day of a key: it depends on the first map alone (`worked-second`), so the answer on the lent map is the calendar's.
use Rattle.expiry.proofs.SecondMap.{worked-second}
use mathlib.Core.Path.{◌∙◌}
use mathlib.Core.List.{[]}
use Rattle.expiry.proofs.last_trading_day.Goals as goal

pub returns : goal.returns
returns c = c.last_trading_day_in.ensures ∙ worked-second _ [] _ _ _
