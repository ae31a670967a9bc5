-- The value at a day: as it was on a weekend (`value-kept`), the next one on a Monday to Friday (`value-new`).
use mathlib.Core.Path.{◌∙◌}
use native.Mathlib.Omega.{arith}
use Rattle.calendar_synthetic.proofs.EachDay.{value-kept, value-new}
use Rattle.calendar_synthetic.proofs.value_at.Goals as goal

pub returns-then-weekday-ge5 : goal.returns-then-weekday-ge5
returns-then-weekday-ge5 c = value-kept _ _ (omega (arith, c.weekday.ensures))

pub returns : goal.returns
returns c = c.next_value.ensures ∙ value-new _ _ (omega (arith, c.weekday.ensures))
