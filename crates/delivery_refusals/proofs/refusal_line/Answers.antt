-- `refusal_line` gives line i of a product's refused calls: line 0 is the opening's (`line-opening`), after a refused opening
-- there is no other (`line-none`), else it is that of notice i - 1, its line and its refusal read from the lists (`line-notice`).
use Rattle.delivery_refusals.proofs.RefusalsTold.{line-opening, line-none, line-notice}
use Rattle.delivery_refusals.proofs.refusal_line.Goals as goal

pub returns-then-i-eq0 : goal.returns-then-i-eq0
returns-then-i-eq0 c = line-opening _ _ _ _ _ _ _ c.if-i-eq0.true c.refusal_text.ensures

pub returns-then-refusal-ne0 : goal.returns-then-refusal-ne0
returns-then-refusal-ne0 c = line-none _ _ _ _ _ _ _ c.if-i-eq0.false c.if-refusal-ne0.true c.empty_line.ensures

pub returns : goal.returns
returns c =
    line-notice _ _ _ _ _ _ _ c.if-i-eq0.false c.if-refusal-ne0.false _ _
    c.call_number-line.ensures c.byte_at.ensures c.refusal_text-2.ensures
