-- `day_question_held` gives a bad line where no day was read (`day-none`), else the question with the day (`day-some`).
use mathlib.Core.Path.{◌∙◌}
use Rattle.delivery_questions.proofs.QuestionForms.{day-none, day-some}
use Rattle.delivery_questions.proofs.day_question_held.Goals as goal

pub returns-then-date-eq0 : goal.returns-then-date-eq0
returns-then-date-eq0 c = c.bare_held.ensures ∙ day-none _ _ _ _ c.if-date-eq0.true

pub returns : goal.returns
returns c = c.one_held.ensures ∙ day-some _ _ _ _ c.if-date-eq0.false
