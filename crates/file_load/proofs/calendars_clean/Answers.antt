-- Question 5 of a file that 4 accepts: the calendar is clean and bytes 108 to 509 of its years' blocks are zero.
-- The yes to 4 makes the calendar that of the calendar blocks, so the two tests together ask 5 of every block (clean-test).
use mathlib.Core.Path.{◌∙◌, ap}
use Rattle.calendar.specs.declared.Calendar.{Calendar}
use Rattle.file_calendar.proofs.CalendarBlocks.{ordered, calendar-is, clean-test}
use Rattle.file_load.proofs.LoadAnswers.{tails-are}
use Rattle.file_load.proofs.calendars_clean.Goals as goal

pub returns : goal.returns
returns c =
    let o = ordered _ c.requires.0 in
    rw (
      c.is_clean.ensures,
      c.requires.1 ∙ calendar-is _ o,
      tails-are _ _ _ c.tails_zero.ensures (ap (λ (x : Calendar). x.cover.years) (c.requires.1 ∙ calendar-is _ o)),
    ) (clean-test _ o)
