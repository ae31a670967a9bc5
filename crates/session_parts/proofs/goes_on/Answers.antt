-- `goes_on` says whether the part goes on at a place and the buffer has room for another answer: no at the part's
-- end (`used-up`), no in a buffer of fewer than 512 bytes (`too_short`), else by the last comparison (`next-is`).
use Rattle.session_parts.proofs.TermsPassing.{used-up, too_short, next-is}
use Rattle.session_parts.proofs.goes_on.Goals as goal

pub returns-then-part-at : goal.returns-then-part-at
returns-then-part-at c = used-up _ _ _ _ c.if-part-at.true

pub returns-then-out-lt512 : goal.returns-then-out-lt512
returns-then-out-lt512 c = too_short _ _ _ _ c.if-out-lt512.true

pub returns : goal.returns
returns c = next-is _ _ _ _ c.if-part-at.false c.if-out-lt512.false
