-- The loop keeps: the rows of the first i stand from `at` up to `next` (`Putting`).
use Rattle.delivery_rows.proofs.RowsInBuffer.{Putting}
use Rattle.delivery_rows.proofs.put_rows.Given as goal

-- ---- the loop's invariant
abbrev pub invariant-loop-i : goal.invariant-loop-i
invariant-loop-i l = Putting l.id l.kind l.maturities l.at l.initial.out l.next l.i l.out
