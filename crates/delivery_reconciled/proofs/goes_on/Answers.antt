-- There is another row, and room for its line, test by test.
use Rattle.delivery_reconciled.proofs.Strangers.{no_more, too_short, room-is}
use Rattle.delivery_reconciled.proofs.goes_on.Goals as goal

pub returns-then-n-next : goal.returns-then-n-next
returns-then-n-next c = no_more _ _ _ _ c.if-n-next.true

pub returns-then-out-lt64 : goal.returns-then-out-lt64
returns-then-out-lt64 c = too_short _ _ _ _ c.if-out-lt64.true

pub returns : goal.returns
returns c = room-is _ _ _ _ c.if-n-next.false c.if-out-lt64.false
