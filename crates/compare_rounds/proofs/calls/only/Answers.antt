-- `only` gives taken tables that are a right queue: they are the empty one (`empty_right`).
use Rattle.rounds.proofs.Rights.{empty_right}
use Rattle.compare_rounds.proofs.calls.only.Goals as goal

pub returns : goal.returns
returns c = rw c.empty-taken.ensures empty_right
