-- `size_asked` gives a bad line where the name is not `size` (`size_none`), else the question for a size (`size_is`).
use mathlib.Core.Path.{◌∙◌}
use Rattle.questions.proofs.Bools.{said-no, said-yes}
use Rattle.delivery_questions.proofs.QuestionForms.{size_none, size_is}
use Rattle.delivery_questions.proofs.size_asked.Goals as goal

pub returns-then-not-is_word : goal.returns-then-not-is_word
returns-then-not-is_word c = c.bare_held.ensures ∙ size_none _ _ (said-no c.is_word.ensures c.if-not-is_word.true)

pub returns : goal.returns
returns c = c.one_held.ensures ∙ size_is _ _ (said-yes c.is_word.ensures c.if-not-is_word.false)
