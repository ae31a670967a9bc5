-- The state once block k of a file is handed over: what `take` ensures of the block that `block_at` gives.
use Rattle.file_intake.proofs.hand_over.Goals as goal

pub returns : goal.returns
returns c = rw (c.take-next.ensures, c.block_at.ensures.0)
