-- The next block is taken, or gets 1 and leaves the state as it was.
-- The two returns are the answers of `may_take`; its yes gives all that `with_block` requires (takeable).
use Rattle.questions.proofs.Bools.{said-no, said-yes}
use Rattle.file_intake.specs.Intake.{take_call}
use Rattle.file_intake.proofs.Steps.{takeable}
use Rattle.file_intake.proofs.Intake.take.Goals as goal

pub returns-then-not-may_take : goal.returns-then-not-may_take
unfolding take_call
returns-then-not-may_take c = rw (said-no c.may_take.ensures c.if-not-may_take.true)

pub with_block-requires : goal.with_block-requires
with_block-requires c =
    takeable c.args.self c.args.block.now (said-yes c.may_take.ensures c.if-not-may_take.false)

pub returns : goal.returns
unfolding take_call
returns c = rw (said-yes c.may_take.ensures c.if-not-may_take.false, c.with_block.ensures)
