-- The loop keeps (`Gathering`): the first `size` places are those of the product among the first `i` rows, `size` is at most `i`, `i` at most `n`,
-- and the list is as long as it was. In the two early returns these conditions do not hold.
use Rattle.delivery_receipts.proofs.Gathering.{Gathering}
use Rattle.delivery_receipts.proofs.places_of.Given as goal

-- ---- what the loop keeps
abbrev pub invariant-loop-i : goal.invariant-loop-i
invariant-loop-i l = Gathering l.id l.ids l.n l.initial.places l.places l.size l.i
