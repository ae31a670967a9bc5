-- Question 1 of the final call: the state is plausible and all announced blocks are taken, by what `is_plausible` ensures.
use Rattle.file_intake.proofs.all_taken.Goals as goal

pub returns : goal.returns
returns c = simp c.is_plausible.ensures
