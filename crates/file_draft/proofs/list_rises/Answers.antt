-- Question 8 by the list: whether each id is greater than the one before it.
-- The loop keeps: the ids before record i rise from neighbour to neighbour. Two that do not rise refute it; after the last all do.
use mathlib.Core.Path.{◌≡◌, sym}
use Prim.Native.Nat.{◌+◌, ◌-◌, ◌/◌}
use native.Mathlib.Omega.{arith}
use lib.ListN.{length}
use Rattle.questions.proofs.Search.{every-none, every_more, every-not}
use Rattle.questions.proofs.Bools.{said-no, said-yes}
use Rattle.file_draft.specs.Drafts.{list_rises}
use Rattle.file_draft.proofs.list_rises.Goals as goal

pub loop-i-init : goal.loop-i-init
loop-i-init c = (omega arith, every-none _)

-- ---- two ids that do not rise: no
pub returns-then-not-id_rises : goal.returns-then-not-id_rises
unfolding list_rises
returns-then-not-id_rises c =
    let k : c.loop-i.i - 1 + 1 ≡ c.loop-i.i = omega arith in
    let e = rw (c.list_id-in-loop-i.ensures, c.list_id.ensures) at c.id_rises.ensures in
    sym (every-not _ _ (c.loop-i.i - 1) (rw k (said-no e c.if-not-id_rises.true)) (omega arith))

-- ---- the turn that goes on
pub loop-i-preserved : goal.loop-i-preserved
loop-i-preserved c =
    let e = rw (c.list_id-in-loop-i.ensures, c.list_id.ensures) at c.id_rises.ensures in
    let k : c.loop-i.i + 1 - 1 ≡ c.loop-i.i - 1 + 1 = omega arith in
    let m : c.loop-i.i - 1 + 1 ≡ c.loop-i.i = omega arith in
    (omega arith, rw k (every_more _ (c.loop-i.i - 1) c.loop-i.invariant.1 (rw m (said-yes e c.if-not-id_rises.false))))

-- ---- after the last pair: yes
pub returns : goal.returns
unfolding list_rises
returns c =
    let e : c.loop-i.i - 1 ≡ length c.args.records.now / 32 - 1 = omega arith in
    sym (rw e at c.loop-i.invariant.1)
