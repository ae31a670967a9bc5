-- 65,536 where all six lengths suffice, else 0, and so at most 65,536.
-- Each side of the test is the side of the `cond` with the same test.
use mathlib.Core.Path.{refl, sym}
use native.Mathlib.Omega.{arith}
use Rattle.delivery_receipts.proofs.room_of.Goals as goal

pub returns-then-ids-keys : goal.returns-then-ids-keys
returns-then-ids-keys c = (omega arith, sym (rw c.if-ids-keys.true refl))

pub returns : goal.returns
returns c = (omega arith, sym (rw c.if-ids-keys.false refl))
