-- Shown: refused with 16 where the fresh listing is not all in the cover, else moved to it. The list is complete exactly
-- where all of it is in the cover (`complete-is`), and a complete one is the definition's (`moved-is`).
use Rattle.listing.proofs.Fresh.{complete-is}
use Rattle.table.proofs.TableQuestions.{moved-is}
use Rattle.questions.proofs.Bools.{said-no, said-yes}
use borrow.Author.Tests.{not-true, not-false}
use mathlib.Core.Path.{refl, ◌∙◌}
use Rattle.table.proofs.relisted.Goals as goal

pub returns-then-not-l : goal.returns-then-not-l
returns-then-not-l c = rw (said-no (complete-is _ _ _ _ _ c.list-l.ensures) (not-true _ c.if-not-l.true)) c.refused.ensures

pub moved_to-requires : goal.moved_to-requires
moved_to-requires c = c.requires

pub returns : goal.returns
returns c =
    let l = c.list-l.ensures in
    rw (said-yes (complete-is _ _ _ _ _ l) (not-false _ c.if-not-l.false))
    (c.moved_to.ensures ∙ moved-is _ _ _ _ l (said-yes refl (not-false _ c.if-not-l.false)))
