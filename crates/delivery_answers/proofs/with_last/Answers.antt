-- `with_last` adds the number of a refusal (`last-no`), else the last trading day, a space and the days back (`last-yes`).
use Rattle.file_text_print.proofs.Building.{then}
use Rattle.delivery_answers.proofs.ReplyTexts.{last-no, last-yes}
use Rattle.delivery_answers.proofs.with_last.Goals as goal

pub returns-then-reply-ne0 : goal.returns-then-reply-ne0
returns-then-reply-ne0 c = last-no _ _ _ c.if-reply-ne0.true c.with_no.ensures

pub returns : goal.returns
returns c = last-yes _ _ _ c.if-reply-ne0.false (then c.with_day.ensures c.with_spaced.ensures)
