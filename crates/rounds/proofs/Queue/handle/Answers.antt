-- Shown: the answer is the definition's call of the round. Refusal 10 has its no, 30 a b below 1 or above 200 after the yes
-- to 10. A right queue has at most 200 tables (`right-count`), so `first_to_end` can be called, and it is the rest.
use Rattle.rounds.proofs.Queues.{right-count}
use Rattle.rounds.proofs.QueueQuestions.{handle-10, handle-small, handle-large, handle-done}
use Rattle.questions.proofs.Bools.{said-no, said-yes}
use borrow.Author.Tests.{le-leb, lt-leb}
use mathlib.Core.Path.{◌∙◌, sym}
use Rattle.rounds.proofs.Queue.handle.Goals as goal

pub returns-then-not-is_right : goal.returns-then-not-is_right
returns-then-not-is_right c = sym (handle-10 _ _ (said-no c.is_right.ensures c.if-not-is_right.true))

pub returns-then-b-lt1 : goal.returns-then-b-lt1
returns-then-b-lt1 c =
    let r = said-yes c.is_right.ensures c.if-not-is_right.false in
    sym (handle-small _ _ r (lt-leb _ _ c.if-b-lt1.true))

pub returns-then-b-gt200 : goal.returns-then-b-gt200
returns-then-b-gt200 c =
    let r = said-yes c.is_right.ensures c.if-not-is_right.false in
    sym (handle-large _ _ r (le-leb _ _ c.if-b-lt1.false) (lt-leb _ _ c.if-b-gt200.true))

pub first_to_end-requires : goal.first_to_end-requires
first_to_end-requires c = right-count _ (said-yes c.is_right.ensures c.if-not-is_right.false)

pub returns : goal.returns
returns c =
    let r = said-yes c.is_right.ensures c.if-not-is_right.false in
    c.first_to_end.ensures ∙ sym (handle-done _ _ r (le-leb _ _ c.if-b-lt1.false) (le-leb _ _ c.if-b-gt200.false))
