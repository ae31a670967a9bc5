-- Question 1 of a block: the state is plausible, the block is not one too many and has 512 bytes. By what `is_plausible` ensures.
use Rattle.file_intake.proofs.may_take.Goals as goal

pub returns : goal.returns
returns c = simp c.is_plausible.ensures
