-- An announced number of 2 to 128 blocks is accepted with the state before the first block, another gets 1 and a state of zeros.
-- The two returns are the two cases of `announce_call`, with what `started` ensures.
use Rattle.file_intake.specs.Intake.{announce_call}
use Rattle.file_intake.proofs.announce.Goals as goal

pub returns-then-blocks : goal.returns-then-blocks
unfolding announce_call
returns-then-blocks c = simp (c.if-blocks.true, c.started.ensures)

pub returns : goal.returns
unfolding announce_call
returns c = simp (c.if-blocks.false, c.started-2.ensures)
