-- The file's calendar; no year where it has not 1 to 16 calendar blocks.
-- The `return` after the test gives the calendar of the blocks (calendar-in), the other the zero calendar (calendar-out).
-- The test says what `calendar_blocks` requires of the count.
use mathlib.Core.Path.{sym, ◌∙◌}
use borrow.Author.Tests.{leb-true}
use Rattle.questions.proofs.Bools.{both}
use Rattle.file_calendar.proofs.CalendarBlocks.{calendar-in, calendar-out}
use Rattle.file_calendar.proofs.calendar_of.Goals as goal

pub calendar_blocks-requires : goal.calendar_blocks-requires
calendar_blocks-requires c =
    let y = c.year_count-years.ensures in
    let t = both _ _ c.if-years.true in
    (y.0, leb-true _ _ t.0, leb-true _ _ t.1, y.1)

pub returns-then-years : goal.returns-then-years
returns-then-years c = c.calendar_blocks.ensures ∙ sym (calendar-in _ _ c.year_count-years.ensures.0 c.if-years.true)

pub returns : goal.returns
returns c =
    c.zero_calendar.ensures ∙ sym (calendar-out _ _ c.year_count-years.ensures.0 c.if-years.false)
