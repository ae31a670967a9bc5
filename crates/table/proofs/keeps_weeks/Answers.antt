-- Shown: of a calendar whose every week trades, the answer is whether every week still does with the day closed. A quick
-- look that says yes is enough (`around-in`); after a no, `trades_with_closed` asks all weeks.
use Rattle.table.proofs.Around.{around-in}
use Rattle.table.proofs.keeps_weeks.Goals as goal

pub returns-then-trades_around : goal.returns-then-trades_around
returns-then-trades_around c = λ w. around-in _ _ _ c.trades_around.ensures c.if-trades_around.true w

pub returns : goal.returns
returns c = λ w. c.trades_with_closed.ensures
