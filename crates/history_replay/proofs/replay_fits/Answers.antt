-- The answer is both of the definition's tests: the lengths fit and every call has a kind, each by its call's contract.
use mathlib.Core.Path.{ap₂}
use mathlib.Core.Bool.{◌&&◌}
use Rattle.history_replay.specs.Replay.{replay_fits}
use Rattle.history_replay.proofs.replay_fits.Goals as goal

pub returns : goal.returns
unfolding replay_fits
returns c = ap₂ ◌&&◌ c.lengths_fit.ensures c.kinds_fit.ensures
