-- `refusal_text` gives no bytes where the number is 0 (`refusal-none`) and else the line of the refused call (`refusal-some`).
use Rattle.delivery_refusals.proofs.RefusalsTold.{refusal-none, refusal-some}
use Rattle.delivery_refusals.proofs.refusal_text.Goals as goal

pub returns-then-refusal-eq0 : goal.returns-then-refusal-eq0
returns-then-refusal-eq0 c = refusal-none _ _ _ _ c.if-refusal-eq0.true c.empty_line.ensures

pub returns : goal.returns
returns c = refusal-some _ _ _ _ c.if-refusal-eq0.false c.refused_notice_line.ensures
