-- `last_asked` reads a question for a last trading day: a word of another length than 7 is read as a Friday (`last-friday`), else
-- as a month, which is a bad line where it is none (`last_none`) and else the question with the month's number (`last-month`).
use mathlib.Core.Path.{◌∙◌, sym, ap}
use mathlib.Core.Bool.{true}
use Rattle.session_lines.specs.declared.Command.{Command}
use Rattle.delivery_questions.specs.QuestionLines.{day_question_held}
use Rattle.delivery_questions.proofs.QuestionForms.{last-friday, last_none, last-month}
use Rattle.delivery_questions.proofs.last_asked.Goals as goal

pub returns-then-word-ne7 : goal.returns-then-word-ne7
returns-then-word-ne7 c = c.day_question_held.ensures ∙ ap (day_question_held 108 _ true) c.date_in.ensures ∙ last-friday _ _ c.if-word-ne7.true

pub returns-then-first-eq0 : goal.returns-then-first-eq0
returns-then-first-eq0 c = c.bare_held.ensures ∙ last_none _ _ c.if-word-ne7.false
    (ap (λ (r : Command). r.letter) (sym c.month_in-first.ensures) ∙ c.if-first-eq0.true)

pub returns : goal.returns
returns c = c.one_held.ensures ∙ last-month _ _ c.if-word-ne7.false _
    c.month_in-first.ensures c.if-first-eq0.false _ c.month_of.ensures
