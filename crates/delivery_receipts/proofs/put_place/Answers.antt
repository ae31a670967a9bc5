-- Where the row is the product's, its place stands at `size` and the count is one more; else list and count are as they were.
-- Both sides follow from the value of `is`; the bounds that are required make the write and the cast right.
use mathlib.Core.Path.{refl}
use native.Mathlib.Omega.{arith}
use Rattle.delivery_receipts.proofs.put_place.Goals as goal

pub returns-then-is : goal.returns-then-is
returns-then-is c = (rw c.if-is.true refl, rw c.if-is.true refl)

pub returns : goal.returns
returns c = (rw c.if-is.false (omega arith), rw c.if-is.false refl)
