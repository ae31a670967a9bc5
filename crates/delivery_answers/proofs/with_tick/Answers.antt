-- `with_tick` adds the number of a refused price (`tick-no`), else the bytes `OK` (`tick-yes`).
use Rattle.delivery_answers.proofs.ReplyTexts.{tick-no, tick-yes, bytes}
use Rattle.delivery_answers.proofs.with_tick.Goals as goal

pub returns-then-refusal-ne0 : goal.returns-then-refusal-ne0
returns-then-refusal-ne0 c = tick-no _ _ _ c.if-refusal-ne0.true c.with_no.ensures

pub returns : goal.returns
returns c = tick-yes _ _ _ c.if-refusal-ne0.false (bytes _ _ _ c.feed.ensures)
