-- Shown: the table is the one that the calls leave, and the buffer begins with their answers.
-- The loop keeps (`Replaying`): the calls from i on, run on table t, end as all calls run on the first table; the answers of
-- the calls before i with those still to come are all answers; the buffer begins with the first i and is else as it was.
use native.Mathlib.Omega.{arith}
use Rattle.history_replay.proofs.ReplayBuffer.{begins, long, turns, ends}
use Rattle.history_replay.proofs.run_calls.Goals as goal

-- ---- the loop
pub loop-i-init : goal.loop-i-init
loop-i-init c =
    (c.requires.0, c.requires.1, begins _ _ _, omega arith)

pub call_at-o-requires : goal.call_at-o-requires
call_at-o-requires c = omega (arith, c.loop-i.invariant.0, c.loop-i-test.true)

pub write_reply-requires : goal.write_reply-requires
write_reply-requires c =
    let v = c.loop-i.invariant in
    omega (arith, v.0, v.1, long _ _ _ v.0 v.1 _ _ _ v.2 v.3, c.loop-i-test.true)

pub loop-i-preserved : goal.loop-i-preserved
loop-i-preserved c =
    let v = c.loop-i.invariant in (
      v.0,
      v.1,
      turns _ _ _ v.0 v.1 _ _ _ _ _ _ v.2 c.loop-i-test.true c.call_at-o.ensures
          c.write_reply.ensures (omega arith),
      omega arith,
    )

-- ---- after the loop
pub shape_of-buffer : goal.shape_of-buffer
shape_of-buffer c =
    let v = c.loop-i.invariant in
    long _ _ _ v.0 v.1 _ _ _ v.2 v.3

pub returns : goal.returns
returns c =
    let v = c.loop-i.invariant in
    ends _ _ _ v.0 v.1 _ _ _ v.2 c.loop-i-test.false v.3
