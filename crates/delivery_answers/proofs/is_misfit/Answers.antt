-- `is_misfit` says whether a maturity is named in the form of the other sort: not of another question
-- (`misfit-other`), not of an unknown product (`misfit-unknown`), else as `is_other_sort` says (`misfit-is`).
use mathlib.Core.Path.{◌∙◌}
use borrow.Author.Tests.{not-true, not-false}
use Rattle.delivery_answers.proofs.ReplyTexts.{misfit-other, misfit-unknown, misfit-is}
use Rattle.delivery_answers.proofs.is_misfit.Goals as goal

pub returns-then-q-ne108 : goal.returns-then-q-ne108
returns-then-q-ne108 c = misfit-other _ _ c.if-q-ne108.true

pub returns-then-not-s : goal.returns-then-not-s
returns-then-not-s c = misfit-unknown _ _ (not-true _ c.if-not-s.true)

pub returns : goal.returns
returns c = c.is_other_sort.ensures ∙ misfit-is _ _ c.if-q-ne108.false (not-false _ c.if-not-s.false)
