-- `day_notice` gives the line of a letter and a date. No date (`day-dateless`) or another letter than
-- O, R, C and E (`day-letterless`) is a bad line; else it is the letter with the day (`day-is`).
use mathlib.Core.Path.{◌∙◌}
use Rattle.delivery_lines.proofs.NoticeForms.{day-dateless, day-letterless, day-is}
use Rattle.questions.proofs.Bools.{said-no, said-yes}
use Rattle.delivery_lines.proofs.day_notice.Goals as goal

pub returns-then-date-eq0 : goal.returns-then-date-eq0
returns-then-date-eq0 c = c.notice_day_held.ensures ∙ day-dateless _ _ c.if-date-eq0.true

pub returns-then-not-is_date_letter : goal.returns-then-not-is_date_letter
returns-then-not-is_date_letter c =
    c.notice_day_held-then-not-is_date_letter.ensures ∙ day-letterless _ _ c.if-date-eq0.false
    (said-no c.is_date_letter.ensures c.if-not-is_date_letter.true)

pub returns : goal.returns
returns c =
    c.notice_day_held-2.ensures ∙ day-is _ _ c.if-date-eq0.false
    (said-yes c.is_date_letter.ensures c.if-not-is_date_letter.false)
