-- The n-th exchange day after a day; 36,525 where the cover has none. The loop keeps: after i turns, d is the i-th exchange day after the day. A turn
-- steps by `nth-more`.
use Rattle.calendar.proofs.NextExchangeDay.{nth-more}
use Rattle.calendar.specs.Trading.{nth_day, nth_exchange_day}
use mathlib.Core.Path.{refl, ◌∙◌}
use Rattle.calendar.proofs.nth_exchange_day_in.Goals as goal

pub loop-init : goal.loop-init
unfolding nth_exchange_day nth_day
loop-init c = refl

pub loop-preserved : goal.loop-preserved
loop-preserved c = c.next_exchange_day_in-d.ensures ∙ nth-more _ _ _ _ c.loop.invariant
