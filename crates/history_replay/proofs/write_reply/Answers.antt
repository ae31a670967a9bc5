-- The four places of call i hold the refusal, the two counts and the price, each set in turn. The places are within the
-- buffer by what is required, and a write leaves its length (`length-set`); the rest is found by search.
use native.Mathlib.Omega.{arith}
use lib.ListN.{length-set}
use Rattle.history_replay.proofs.write_reply.Goals as goal

-- ---- the four writes are within the buffer
pub bounds-buffer-at-2 : goal.bounds-buffer-at-2
bounds-buffer-at-2 c = simp length-set (omega arith)

pub bounds-buffer-at-3 : goal.bounds-buffer-at-3
bounds-buffer-at-3 c = simp length-set (omega arith)

pub bounds-buffer-at-4 : goal.bounds-buffer-at-4
bounds-buffer-at-4 c = simp length-set (omega arith)
