-- `put_call` writes five numbers to the places of call i. The writes are the five of the
-- contract, in its order; each place is within the list since a write keeps the length.
use native.Mathlib.Omega.{arith}
use lib.ListN.{length-set}
use Rattle.delivery_notices.proofs.put_call.Goals as goal

-- ---- the four after it
pub bounds-calls-at-2 : goal.bounds-calls-at-2
bounds-calls-at-2 c = simp length-set (omega arith)

pub bounds-calls-at-3 : goal.bounds-calls-at-3
bounds-calls-at-3 c = simp length-set (omega arith)

pub bounds-calls-at-4 : goal.bounds-calls-at-4
bounds-calls-at-4 c = simp length-set (omega arith)

pub bounds-calls-at-5 : goal.bounds-calls-at-5
bounds-calls-at-5 c = simp length-set (omega arith)
