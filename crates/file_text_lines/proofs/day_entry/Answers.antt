-- A closed day or another line. The four returns are: not 12 characters, no letter C or X with a space, no date, and the entry with its day.
-- Each cites the tests before it (day-length, day-formless, day-dateless, day-is).
use Rattle.file_text_lines.proofs.EntryForms.{day-length, day-formless, day-dateless, day-is}
use borrow.Author.Tests.{not-true, not-false}
use mathlib.Core.Path.{◌∙◌}
use Rattle.file_text_lines.proofs.day_entry.Goals as goal

pub returns-then-line-ne12 : goal.returns-then-line-ne12
returns-then-line-ne12 c = c.other_entry.ensures ∙ day-length _ _ c.if-line-ne12.true

pub returns-then-not-letter-bytes : goal.returns-then-not-letter-bytes
returns-then-not-letter-bytes c = c.other_entry-then-not-letter-bytes.ensures ∙ day-formless _ _ c.if-line-ne12.false c.if-not-letter-bytes.true

pub returns-then-not-date : goal.returns-then-not-date
returns-then-not-date c =
    c.other_entry-then-not-date.ensures ∙ day-dateless _ _ c.if-line-ne12.false c.if-not-letter-bytes.false _ c.date_from-date.ensures
    (not-true _ c.if-not-date.true)

pub returns : goal.returns
returns c =
    day-is _ _ c.if-line-ne12.false c.if-not-letter-bytes.false _ c.date_from-date.ensures (not-false _ c.if-not-date.false)
