-- `measured_on` gives a refused measure with the flat table as it came (`measured-no`), an accepted one with its own table flat (`measured-yes`).
use Rattle.c_types.proofs.FlatAnswers.{measured-no, measured-yes}
use Rattle.c_types.proofs.measured_on.Goals as goal

pub returns-then-m-ne0 : goal.returns-then-m-ne0
returns-then-m-ne0 c = measured-no _ _ c.if-m-ne0.true

pub returns : goal.returns
returns c = rw c.flat_table-table.ensures (measured-yes _ _ c.if-m-ne0.false)
