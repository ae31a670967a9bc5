-- A number of 0 tells nothing, any other its line.
use Rattle.delivery_inputs.proofs.BadLinesTold.{told_none, told-one}
use Rattle.delivery_inputs.proofs.told_line.Goals as goal

pub returns-then-number-eq0 : goal.returns-then-number-eq0
returns-then-number-eq0 c = told_none _ _ c.if-number-eq0.true c.empty_line.ensures

pub returns : goal.returns
returns c = told-one _ _ c.if-number-eq0.false c.bad_row_line.ensures
