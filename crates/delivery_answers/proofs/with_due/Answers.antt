-- `with_due` adds the number of a refusal (`due-no`), else the due day (`due-yes`).
use Rattle.delivery_answers.proofs.ReplyTexts.{due-no, due-yes}
use Rattle.delivery_answers.proofs.with_due.Goals as goal

pub returns-then-reply-ne0 : goal.returns-then-reply-ne0
returns-then-reply-ne0 c = due-no _ _ _ c.if-reply-ne0.true c.with_no.ensures

pub returns : goal.returns
returns c = due-yes _ _ _ c.if-reply-ne0.false c.with_day.ensures
