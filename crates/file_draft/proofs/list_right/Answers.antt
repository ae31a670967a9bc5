-- Question 7 by the list: whether every record of it is right.
-- The loop keeps: the records before i are right. A record that is not refutes it of all; after the last it is said of all.
use mathlib.Core.Path.{◌≡◌, sym}
use Prim.Native.Nat.{◌/◌}
use native.Mathlib.Omega.{arith}
use lib.ListN.{length}
use Rattle.questions.proofs.Search.{every-none, every_more, every-not}
use Rattle.questions.proofs.Bools.{said-no, said-yes}
use Rattle.file_draft.specs.Drafts.{list_right}
use Rattle.file_draft.proofs.list_right.Goals as goal

pub loop-i-init : goal.loop-i-init
loop-i-init c = every-none _

-- ---- a record that is not right: no
pub returns-then-not-record_right : goal.returns-then-not-record_right
unfolding list_right
returns-then-not-record_right c =
    let e = rw c.list_record.ensures at c.record_right.ensures in
    sym (every-not _ _ _ (said-no e c.if-not-record_right.true) (omega arith))

-- ---- the turn that goes on
pub loop-i-preserved : goal.loop-i-preserved
loop-i-preserved c =
    let e = rw c.list_record.ensures at c.record_right.ensures in
    every_more _ _ c.loop-i.invariant (said-yes e c.if-not-record_right.false)

-- ---- after the last record: yes
pub returns : goal.returns
unfolding list_right
returns c =
    let e : c.loop-i.i ≡ length c.args.records.now / 32 = omega arith in
    sym (rw e at c.loop-i.invariant)
