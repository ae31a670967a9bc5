-- Shown: the answer is the definition's roll. A table that is not sound is refused with 10; of a sound one `roll_sound`
-- gives the definition's answer.
use Rattle.table.proofs.TableQuestions.{roll-10}
use Rattle.questions.proofs.Bools.{said-no, said-yes}
use mathlib.Core.Path.{◌∙◌, sym}
use Rattle.table.proofs.Table.roll.Goals as goal

pub returns-then-not-is_sound : goal.returns-then-not-is_sound
returns-then-not-is_sound c = c.refused.ensures ∙ sym (roll-10 _ _ (said-no c.is_sound.ensures c.if-not-is_sound.true))

pub returns : goal.returns
returns c = c.roll_sound.ensures (said-yes c.is_sound.ensures c.if-not-is_sound.false)
