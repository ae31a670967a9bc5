-- The status is the definition's, of what failed and of what is refused.
use mathlib.Core.Path.{refl}
use Rattle.query_run.specs.QueryOutcomes.{run_failed}
use Rattle.query_run.proofs.outcome.Goals as goal

pub returns : goal.returns
unfolding run_failed
returns c = rw (c.status-status.ensures, c.is_open.ensures, c.has_failed.ensures) refl
