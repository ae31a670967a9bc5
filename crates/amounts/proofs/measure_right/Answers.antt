-- Question 29: the new size and the new price are in range. A new size out of range is a no (`measure-no`); one in range fits 32 bits (`size-bound`),
-- and the new price, made from it, decides (`measure-is`).
use native.Mathlib.Omega.{arith}
use Rattle.amounts.proofs.Rounding.{size-bound, measure-no, measure-is}
use Rattle.amounts.proofs.measure_right.Goals as goal

pub returns-then-not-changed : goal.returns-then-not-changed
returns-then-not-changed c = measure-no _ _ _ _ _ c.new_size-changed.ensures c.if-not-changed.true

pub overflow_cast-changed : goal.overflow_cast-changed
overflow_cast-changed c = omega (arith, size-bound c.new_size-changed.result c.if-not-changed.false)

pub returns : goal.returns
returns c = measure-is _ _ _ _ _ _ c.new_size-changed.ensures c.if-not-changed.false c.new_price-moved.ensures
