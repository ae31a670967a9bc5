-- The line has the word of the reason more, nothing where the row is the same.
-- Seven arms, one for each reason: `Same` adds no text, each of the others feeds the bytes that `why_text` has for it.
use Rattle.delivery_reports.specs.Reports.{why_text}
use Rattle.delivery_reports.proofs.BytesOnLine.{no_text, fed-text}
use Rattle.delivery_reports.proofs.with_why.Goals as goal

-- ---- one answer for each reason
pub returns-in-Same : goal.returns-in-Same
unfolding why_text
returns-in-Same c = rw c.in-Same.is (no_text _)

pub returns-in-Missing : goal.returns-in-Missing
unfolding why_text
returns-in-Missing c = rw c.in-Missing.is (fed-text _ _ _ c.feed.ensures)

pub returns-in-Extra : goal.returns-in-Extra
unfolding why_text
returns-in-Extra c = rw c.in-Extra.is (fed-text _ _ _ c.feed-in-Extra.ensures)

pub returns-in-Twice : goal.returns-in-Twice
unfolding why_text
returns-in-Twice c = rw c.in-Twice.is (fed-text _ _ _ c.feed-in-Twice.ensures)

pub returns-in-Day : goal.returns-in-Day
unfolding why_text
returns-in-Day c = rw c.in-Day.is (fed-text _ _ _ c.feed-in-Day.ensures)

pub returns-in-Number : goal.returns-in-Number
unfolding why_text
returns-in-Number c = rw c.in-Number.is (fed-text _ _ _ c.feed-in-Number.ensures)

pub returns-in-DaysBack : goal.returns-in-DaysBack
unfolding why_text
returns-in-DaysBack c = rw c.in-DaysBack.is (fed-text _ _ _ c.feed-in-DaysBack.ensures)
