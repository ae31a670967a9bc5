-- True exactly where there is another key and room for its line of 64 bytes.
-- A `return` of the first test is `no_more`, of the second `too_short`; past both, the comparison with the length less 64 is `room-is`.
use Rattle.delivery_reports.proofs.ReportLines.{no_more, too_short, room-is}
use Rattle.delivery_reports.proofs.goes_on.Goals as goal

pub returns-then-next-ge65536 : goal.returns-then-next-ge65536
returns-then-next-ge65536 c = no_more _ _ _ c.if-next-ge65536.true

pub returns-then-out-lt64 : goal.returns-then-out-lt64
returns-then-out-lt64 c = too_short _ _ _ c.if-out-lt64.true

pub returns : goal.returns
returns c = room-is _ _ _ c.if-next-ge65536.false c.if-out-lt64.false
