-- The queue is the tables before the index and those after it, in their order (`left_is`): two `put_after`, the second after
-- the first `index` places, and both within the 200 places since the index is below the count.
use lib.ListN.{length}
use mathlib.Core.Path.{◌≡◌}
use Rattle.rounds.proofs.QueueQuestions.{placed, left_is}
use lib.Seq.{length-take-le}
use native.Mathlib.Omega.{arith}
use Rattle.rounds.proofs.without_index.Goals as goal

pub put_after-before-requires : goal.put_after-before-requires
put_after-before-requires c = (omega arith, omega arith, omega arith, c.no_tables-none.ensures)

pub put_after-all-requires : goal.put_after-all-requires
put_after-all-requires c =
    let start = c in
    let l : length start.args.q.tables ≡ 200 = start.well_formed.0.1.1.0.1.0.1 in
    let e = length-take-le start.args.index start.args.q.tables (omega (arith, l)) in
    (omega arith, omega arith, omega arith, placed _ _ _ c.put_after-before.ensures e)

pub returns : goal.returns
returns c =
    let start = c in
    let l : length start.args.q.tables ≡ 200 = start.well_formed.0.1.1.0.1.0.1 in
    left_is start.args.q.tables start.args.q.count (omega (arith, l)) _ _ _ start.requires.0 c.put_after-before.ensures
    c.put_after-all.ensures
