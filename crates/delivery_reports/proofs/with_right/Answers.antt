-- The line has what is right more: a day, a decimal number, or nothing where the row is the same or extra.
-- Seven arms, one for each reason: `Same` and `Extra` add no text, the others cite the call that writes the day, the number or the days back.
use Rattle.delivery_reports.specs.Reports.{right_text}
use Rattle.delivery_reports.proofs.BytesOnLine.{no_text}
use Rattle.delivery_reports.proofs.with_right.Goals as goal

-- ---- one answer for each reason
pub returns-in-Same : goal.returns-in-Same
unfolding right_text
returns-in-Same c = rw c.in-Same.is (no_text _)

pub returns-in-Missing : goal.returns-in-Missing
unfolding right_text
returns-in-Missing c = rw c.in-Missing.is c.with_day.ensures

pub returns-in-Extra : goal.returns-in-Extra
unfolding right_text
returns-in-Extra c = rw c.in-Extra.is (no_text _)

pub returns-in-Twice : goal.returns-in-Twice
unfolding right_text
returns-in-Twice c = rw c.in-Twice.is c.with_day-in-Twice.ensures

pub returns-in-Day : goal.returns-in-Day
unfolding right_text
returns-in-Day c = rw c.in-Day.is c.with_day-in-Day.ensures

pub returns-in-Number : goal.returns-in-Number
unfolding right_text
returns-in-Number c = rw c.in-Number.is c.with_decimal.ensures

pub returns-in-DaysBack : goal.returns-in-DaysBack
unfolding right_text
returns-in-DaysBack c = rw c.in-DaysBack.is c.with_decimal-in-DaysBack.ensures
