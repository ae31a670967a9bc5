-- A number of 0 counts nothing, any other one line.
use Rattle.delivery_inputs.proofs.BadLinesTold.{none-counted, one-counted}
use Rattle.delivery_inputs.proofs.bad_count.Goals as goal

pub returns-then-number-eq0 : goal.returns-then-number-eq0
returns-then-number-eq0 c = none-counted _ _ c.if-number-eq0.true

pub returns : goal.returns
returns c = one-counted _ _ _ c.if-number-eq0.false c.next_line.ensures
