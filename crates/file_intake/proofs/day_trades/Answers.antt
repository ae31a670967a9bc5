-- Whether day n of a calendar block's year is a Monday to Friday that is not closed.
-- The first `return` is a weekend day (weekend), the other a weekday, open where the map has no bit (weekday-trades).
-- The requirement keeps the day within the days that are counted, so the sum fits.
use mathlib.Core.Path.{ap, ◌∙◌}
use native.Mathlib.Omega.{arith}
use Rattle.days.specs.Dates.{year_start}
use Rattle.file_intake.proofs.Steps.{weekend, weekday-trades}
use Rattle.file_intake.proofs.day_trades.Goals as goal

pub overflow_add-start : goal.overflow_add-start
overflow_add-start c = omega (arith, c.requires, c.year_start-start.ensures.0 ∙ ap year_start c.field_at.ensures)

pub returns-then-weekday-ge5 : goal.returns-then-weekday-ge5
returns-then-weekday-ge5 c = weekend _ _ _ _ (c.year_start-start.ensures.0 ∙ ap year_start c.field_at.ensures)
    c.weekday.ensures c.if-weekday-ge5.true

pub returns : goal.returns
returns c = weekday-trades _ _ _ _ (c.year_start-start.ensures.0 ∙ ap year_start c.field_at.ensures)
    c.weekday.ensures _ c.if-weekday-ge5.false c.map_bit.ensures
