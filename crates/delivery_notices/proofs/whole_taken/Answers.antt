-- `whole_taken` judges the end of a text: one with an O (`whole-opened`) or with a bad
-- line (`whole-bad`) stays as it is; of another a line is missing (`whole-missing`).
use mathlib.Core.Path.{◌∙◌}
use Rattle.delivery_notices.proofs.NoticesSoFar.{whole-opened, whole-bad, whole-missing}
use Rattle.delivery_notices.proofs.whole_taken.Goals as goal

pub returns-then-t-ne0 : goal.returns-then-t-ne0
returns-then-t-ne0 c = whole-opened _ c.if-t-ne0.true

pub returns-then-t-ne0-2 : goal.returns-then-t-ne0-2
returns-then-t-ne0-2 c = whole-bad _ c.if-t-ne0.false c.if-t-ne0-2.true

pub bad_taken-requires : goal.bad_taken-requires
bad_taken-requires c = c.requires

pub returns : goal.returns
returns c = c.bad_taken.ensures ∙ whole-missing _ c.if-t-ne0.false c.if-t-ne0-2.false
