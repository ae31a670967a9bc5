-- `put_id` writes four bytes to the places of id i. The writes are the four of the
-- contract, in its order; each place is within the list since a write keeps the length.
use native.Mathlib.Omega.{arith}
use lib.ListN.{length-set}
use Rattle.delivery_notices.proofs.put_id.Goals as goal

pub bounds-ids-at-2 : goal.bounds-ids-at-2
bounds-ids-at-2 c = simp length-set (omega arith)

pub bounds-ids-at-3 : goal.bounds-ids-at-3
bounds-ids-at-3 c = simp length-set (omega arith)

pub bounds-ids-at-4 : goal.bounds-ids-at-4
bounds-ids-at-4 c = simp length-set (omega arith)
