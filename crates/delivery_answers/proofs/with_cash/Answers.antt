-- `with_cash` adds the number of a refusal (`cash-no`), else the amount (`cash-yes`).
use Rattle.delivery_answers.proofs.ReplyTexts.{cash-no, cash-yes}
use Rattle.delivery_answers.proofs.with_cash.Goals as goal

pub returns-then-reply-ne0 : goal.returns-then-reply-ne0
returns-then-reply-ne0 c = cash-no _ _ _ c.if-reply-ne0.true c.with_no.ensures

pub returns : goal.returns
returns c = cash-yes _ _ _ c.if-reply-ne0.false c.with_amount.ensures
