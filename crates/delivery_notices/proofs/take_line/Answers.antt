-- `take_line` takes a line: after a bad one nothing (`line-after-bad`), a cut one is bad (`line-cut`),
-- another is taken by what it says (`line-said`). The lengths of the lists are those that `take_said` keeps.
use Rattle.delivery_notices.proofs.NoticesSoFar.{line-after-bad, line-cut, line-said}
use Rattle.delivery_notices.proofs.take_line.Goals as goal

pub returns-then-t-ne0 : goal.returns-then-t-ne0
returns-then-t-ne0 c = line-after-bad _ _ _ _ _ c.if-t-ne0.true

pub bad_taken-requires : goal.bad_taken-requires
bad_taken-requires c = c.requires.0

pub returns-then-cut : goal.returns-then-cut
returns-then-cut c = rw c.bad_taken.ensures (line-cut _ _ _ _ c.if-t-ne0.false _ c.if-cut.true)

pub take_said-requires : goal.take_said-requires
take_said-requires c =
    (c.requires.0, c.requires.1, c.if-t-ne0.false, c.requires.2, c.requires.3)

pub shape_of-calls : goal.shape_of-calls
shape_of-calls c = c.take_said.ensures.calls-long

pub shape_of-ids : goal.shape_of-ids
shape_of-ids c = c.take_said.ensures.ids-long

pub returns : goal.returns
returns c =
    line-said _ _ _ _ c.if-t-ne0.false _
    c.if-cut.false _
    c.notice_of.ensures _ _ _ c.take_said.ensures
