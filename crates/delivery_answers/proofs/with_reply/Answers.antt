-- `with_reply` adds `NO 9` of an unknown product (`reply-unknown`), the number of
-- a refused opening (`reply-refused`), else the table's answer (`reply-table`).
use borrow.Author.Tests.{not-true, not-false}
use Rattle.delivery_answers.proofs.ReplyTexts.{reply-unknown, reply-refused, reply-table}
use Rattle.delivery_answers.proofs.with_reply.Goals as goal

pub returns-then-not-s : goal.returns-then-not-s
returns-then-not-s c = reply-unknown _ _ _ _ (not-true _ c.if-not-s.true) c.with_no.ensures

pub returns-then-s-ne0 : goal.returns-then-s-ne0
returns-then-s-ne0 c = reply-refused _ _ _ _ (not-false _ c.if-not-s.false) c.if-s-ne0.true c.with_no-then-s-ne0.ensures

pub returns : goal.returns
returns c = reply-table _ _ _ _ (not-false _ c.if-not-s.false) c.if-s-ne0.false c.with_answer.ensures
