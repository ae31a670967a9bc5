-- How many maps may have closed days: none where the cover begins after 2099 (`used-none`), 16 where it has more years (`used_all`), else one for
-- each year (`used-years`).
use Rattle.calendar_checks.proofs.Maps.{used-none, used_all, used-years}
use Rattle.calendar_checks.proofs.maps_used.Goals as goal

pub returns-then-cover-ge2100 : goal.returns-then-cover-ge2100
returns-then-cover-ge2100 c = used-none _ c.if-cover-ge2100.true

pub returns-then-cover-gt16 : goal.returns-then-cover-gt16
returns-then-cover-gt16 c = used_all _ c.if-cover-ge2100.false c.if-cover-gt16.true

pub returns : goal.returns
returns c = used-years _ c.if-cover-ge2100.false c.if-cover-gt16.false
