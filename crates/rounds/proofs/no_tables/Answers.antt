-- Two hundred zeros are the places of no table; by computing.
use Rattle.rounds.specs.Rounds.{places200}
use mathlib.Core.Path.{refl}
use Rattle.rounds.proofs.no_tables.Goals as goal

pub returns : goal.returns
unfolding places200
returns c = refl
