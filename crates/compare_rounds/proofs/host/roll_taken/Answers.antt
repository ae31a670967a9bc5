-- `roll_taken` is shown to reach only tables of the host. The loop keeps: n is at most 200, each of the first n numbers is at most 199, and there
-- are 200 tables. The first and the second hold since the queue is right (`right-count`, `right-number`).
use Rattle.rounds.proofs.Queues.{right-count, right-number}
use native.Mathlib.Omega.{arith}
use Rattle.compare_rounds.proofs.host.roll_taken.Goals as goal

-- ---- before the loop
pub loop-i-init : goal.loop-i-init
loop-i-init c =
    (right-count _ c.requires, right-number _ c.requires, c.well_formed.1.0.1.1.0.1.0.1)

-- ---- a turn: the table with the number is one of the 200
pub offset_bounds-tables-place : goal.offset_bounds-tables-place
offset_bounds-tables-place c = omega (arith, c.loop-i.invariant.1 _ c.loop-i-test.true)

pub bounds-tables-place : goal.bounds-tables-place
bounds-tables-place c = omega (arith, c.loop-i.invariant.1 _ c.loop-i-test.true, c.loop-i.invariant.2)

pub offset_bounds-tables-place-in-loop-i : goal.offset_bounds-tables-place-in-loop-i
offset_bounds-tables-place-in-loop-i c =
    omega (arith, c.loop-i.invariant.1 _ c.loop-i-test.true, c.loop-i.invariant.2)

pub bounds-tables-place-in-loop-i : goal.bounds-tables-place-in-loop-i
bounds-tables-place-in-loop-i c =
    omega (arith, c.loop-i.invariant.1 _ c.loop-i-test.true, c.loop-i.invariant.2)
