-- The days to settlement: 1 for a future; for an option what `option_days` ensures. The `match` tells which it is.
use Rattle.product.specs.Settlement.{settlement_days}
use Rattle.product.proofs.settlement_days.Goals as goal

pub returns-in-Future : goal.returns-in-Future
unfolding settlement_days
returns-in-Future c = rw c.in-Future.is

pub returns-in-Option : goal.returns-in-Option
unfolding settlement_days
returns-in-Option c = rw c.in-Option.is c.option_days.ensures
