-- `due_asked` reads a question for a due day: what `day_question_held` says of the date that `date_in` reads, which is `due_asked` by `due-day`.
use mathlib.Core.Path.{◌∙◌, ap}
use mathlib.Core.Bool.{false}
use Rattle.delivery_questions.specs.QuestionLines.{day_question_held}
use Rattle.delivery_questions.proofs.QuestionForms.{due-day}
use Rattle.delivery_questions.proofs.due_asked.Goals as goal

pub returns : goal.returns
returns c = c.day_question_held.ensures ∙ ap (day_question_held 100 _ false) c.date_in.ensures ∙ due-day _ _
