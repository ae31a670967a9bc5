-- `outcome_on` gives a refused outcome with the flat table as it came (`outcome-no`), an accepted one flat (`outcome-yes`).
use mathlib.Core.Path.{◌∙◌}
use Rattle.c_types.proofs.FlatAnswers.{outcome-no, outcome-yes}
use Rattle.c_types.proofs.outcome_on.Goals as goal

pub returns-then-o-ne0 : goal.returns-then-o-ne0
returns-then-o-ne0 c = outcome-no _ _ c.if-o-ne0.true

pub returns : goal.returns
returns c = c.flat_outcome.ensures ∙ outcome-yes _ _ c.if-o-ne0.false
