-- Shown: how many of the first n numbers stand before the table's, where it is among them; where not, all n do (`index-found`).
use Rattle.std.proofs.Common.{rules, tests, nat_eq, take}
use Rattle.std.proofs.lemmas.Iterator.{YieldsList-from_slice}
use Rattle.std.proofs.lemmas.Iterator.Search.{position_from_yields_List}
use Rattle.rounds.proofs.QueuePlaces.{index-found}
use native.Mathlib.Omega.{arith}
use lib.Seq.{length-take-le}
use Rattle.rounds.proofs.index_of.Goals as goal

pub returns : goal.returns
returns c =
    index-found (take c.args.n c.args.tables) c.args.table c.args.n c.position.result (length-take-le _ _ (omega (arith, c.well_formed.0.1.0.1)))
    (position_from_yields_List (λ y. nat_eq y c.args.table) _ _ c.position.result c.position.ensures.ran (YieldsList-from_slice _ c.iter.ensures.rest)
    (λ x b q k. search (rules, tests)))
