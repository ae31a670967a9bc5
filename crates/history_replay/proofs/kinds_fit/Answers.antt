-- Shown: yes exactly where every call of the list has a kind of 0 to 3.
-- The loop keeps: k is at most the number of calls, and the calls before k have such a kind. A call with another ends it
-- with no (`kinds-no`); after the last one all have (`kinds-yes`).
use native.Mathlib.Omega.{arith}
use borrow.Author.Tests.{le-leb}
use Rattle.questions.proofs.Search.{every-none, every_more}
use Rattle.history_replay.proofs.ReplayBuffer.{kinds-no, kinds-yes}
use Rattle.history_replay.proofs.kinds_fit.Goals as goal

-- ---- the loop
pub loop-k-init : goal.loop-k-init
loop-k-init c = (omega arith, every-none _)

pub returns-then-calls-k-gt3 : goal.returns-then-calls-k-gt3
returns-then-calls-k-gt3 c = kinds-no _ _ c.loop-k-test.true c.if-calls-k-gt3.true

pub loop-k-preserved : goal.loop-k-preserved
loop-k-preserved c = (omega arith, every_more _ _ c.loop-k.invariant.1 (le-leb _ _ c.if-calls-k-gt3.false))

-- ---- after the loop
pub returns : goal.returns
returns c =
    let v = c.loop-k.invariant in
    kinds-yes _ _ v.0 c.loop-k-test.false v.1
