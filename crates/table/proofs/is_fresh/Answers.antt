-- Shown: yes exactly where the fresh listing is complete in the cover and the places hold it. `complete-is` says that the
-- list is complete where all of it is in the cover; then its places are the fresh listing (`lists-is`).
use Rattle.listing.proofs.Fresh.{complete-is}
use Rattle.table.proofs.TableQuestions.{lists-is}
use Rattle.questions.proofs.Bools.{said-no, said-yes}
use borrow.Author.Tests.{not-true, not-false}
use Rattle.table.proofs.is_fresh.Goals as goal

pub returns-then-not-l : goal.returns-then-not-l
returns-then-not-l c = rw (said-no (complete-is _ _ _ _ _ c.list-l.ensures) (not-true _ c.if-not-l.true))

pub returns : goal.returns
returns c =
    let l = c.list-l.ensures in
    rw (said-yes (complete-is _ _ _ _ _ l) (not-false _ c.if-not-l.false)) (lists-is _ _ _ l c.are_places_right.ensures)
