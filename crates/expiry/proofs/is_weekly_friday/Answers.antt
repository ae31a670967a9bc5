-- Whether a day is a Friday and not the third of its month: the first `return` is another weekday (`no-friday`); of a Friday the comparison with the
-- third Friday of its month decides (`not_third`).
use Rattle.expiry.proofs.Fridays.{no-friday, not_third}
use Rattle.expiry.specs.LastDays.{third_friday}
use mathlib.Core.Path.{◌∙◌, ap}
use Rattle.expiry.proofs.is_weekly_friday.Goals as goal

pub returns-then-weekday-ne4 : goal.returns-then-weekday-ne4
returns-then-weekday-ne4 c = no-friday _ _ c.weekday.ensures c.if-weekday-ne4.true

pub returns : goal.returns
returns c =
    not_third _ _ _ c.weekday.ensures c.if-weekday-ne4.false
    (c.third_friday.ensures ∙ ap third_friday c.month_of.ensures)
