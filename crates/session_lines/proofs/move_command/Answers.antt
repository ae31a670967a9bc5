-- Shown: the command is a roll, a close or another line, as the definition says. Another line has a length other than 12, or
-- not the letter and space, or no date: each `return` cites the tests before it. Else it has the letter and the day.
use Rattle.session_lines.proofs.CommandForms.{move-length, move-formless, move-dateless, move-is}
use borrow.Author.Tests.{not-true, not-false}
use mathlib.Core.Path.{◌∙◌}
use Rattle.session_lines.proofs.move_command.Goals as goal

pub returns-then-length-ne12 : goal.returns-then-length-ne12
returns-then-length-ne12 c = c.other_line.ensures ∙ move-length _ _ c.if-length-ne12.true

pub returns-then-not-letter-bytes : goal.returns-then-not-letter-bytes
returns-then-not-letter-bytes c = c.other_line-then-not-letter-bytes.ensures ∙ move-formless _ _ c.if-length-ne12.false c.if-not-letter-bytes.true

pub returns-then-not-date : goal.returns-then-not-date
returns-then-not-date c =
    c.other_line-then-not-date.ensures ∙ move-dateless _ _ c.if-length-ne12.false c.if-not-letter-bytes.false _ c.date_at-date.ensures
    (not-true _ c.if-not-date.true)

pub returns : goal.returns
returns c = move-is _ _ c.if-length-ne12.false c.if-not-letter-bytes.false _
    c.date_at-date.ensures (not-false _ c.if-not-date.false)
