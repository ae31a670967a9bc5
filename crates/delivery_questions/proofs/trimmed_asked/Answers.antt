-- `trimmed_asked` gives what a line without blanks at its end asks: an empty one (`line-empty`) and one with # at its start
-- (`line-comment`) nothing, one of more than 255 bytes is bad (`line-long`), another asks what its words ask (`line-words`).
use mathlib.Core.Path.{◌∙◌}
use Rattle.delivery_questions.proofs.QuestionForms.{line-empty, line-comment, line-long, line-words}
use Rattle.delivery_questions.proofs.trimmed_asked.Goals as goal

pub returns-then-line-eq0 : goal.returns-then-line-eq0
returns-then-line-eq0 c = c.bare_held.ensures ∙ line-empty _ c.if-line-eq0.true

pub returns-then-line-eq35 : goal.returns-then-line-eq35
returns-then-line-eq35 c = c.bare_held-then-line-eq35.ensures ∙ line-comment _ c.if-line-eq0.false c.if-line-eq35.true

pub returns-then-line-gt255 : goal.returns-then-line-gt255
returns-then-line-gt255 c = c.bare_held-then-line-gt255.ensures ∙ line-long _ c.if-line-eq0.false c.if-line-eq35.false c.if-line-gt255.true

pub returns : goal.returns
returns c = c.words_asked.ensures ∙ line-words _ c.if-line-eq0.false c.if-line-eq35.false c.if-line-gt255.false
