-- `trimmed_line` gives what a line without blanks at its end says: an empty one nothing (`line-empty`),
-- one with # at its start nothing (`line-comment`), another what its words say (`line-words`).
use mathlib.Core.Path.{◌∙◌}
use Rattle.delivery_lines.proofs.NoticeForms.{line-empty, line-comment, line-words}
use Rattle.delivery_lines.proofs.trimmed_line.Goals as goal

pub returns-then-line-eq0 : goal.returns-then-line-eq0
returns-then-line-eq0 c = c.notice_day_held.ensures ∙ line-empty _ c.if-line-eq0.true

pub returns-then-line-eq35 : goal.returns-then-line-eq35
returns-then-line-eq35 c = c.notice_day_held-then-line-eq35.ensures ∙ line-comment _ c.if-line-eq0.false c.if-line-eq35.true

pub returns : goal.returns
returns c = c.words_line.ensures ∙ line-words _ c.if-line-eq0.false c.if-line-eq35.false
