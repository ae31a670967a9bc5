-- The last trading day of a key: for a weekly kind that of its Friday, else that of its month's anchor. Each `return` cites what `is_weekly` said,
-- which decides the anchor.
use Rattle.expiry.specs.LastDays.{anchor_of, last_trading_day, worked_out}
use mathlib.Core.Path.{◌∙◌, sym}
use Rattle.expiry.proofs.last_trading_day_in.Goals as goal

pub returns-then-is_weekly : goal.returns-then-is_weekly
unfolding worked_out last_trading_day anchor_of
returns-then-is_weekly c = rw (sym c.is_weekly.ensures ∙ c.if-is_weekly.true) c.last_day_in.ensures

pub returns : goal.returns
unfolding worked_out last_trading_day anchor_of
returns c = rw (sym c.is_weekly.ensures ∙ c.if-is_weekly.false) c.month_last_day_in.ensures
