-- The queue is the tables that were queued and then the new one (`joined_is`): the used places are put into zeros and the
-- table is written after them, within the places since fewer than 200 are used.
use lib.ListN.{length}
use mathlib.Core.Path.{◌≡◌}
use Rattle.rounds.proofs.QueueQuestions.{joined_is}
use native.Mathlib.Omega.{arith}
use Rattle.rounds.proofs.with_last.Goals as goal

pub put_after-all-requires : goal.put_after-all-requires
put_after-all-requires c = (omega arith, omega arith, omega arith, c.no_tables-none.ensures)

pub returns : goal.returns
returns c =
    let start = c in
    let l : length start.args.q.tables ≡ 200 = start.well_formed.0.1.1.0.1.0.1 in
    joined_is start.args.q.tables start.args.q.count (omega (arith, l)) _ _ start.requires c.put_after-all.ensures
