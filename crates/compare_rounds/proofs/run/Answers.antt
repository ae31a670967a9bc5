-- `run` is shown to hand the host only right queues: that the taken tables are one is what `calls::step` promises.
use Rattle.compare_rounds.proofs.run.Goals as goal

-- ---- the loop
pub step-host-requires : goal.step-host-requires
step-host-requires c = c.step-c.ensures
