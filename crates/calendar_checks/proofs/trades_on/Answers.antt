-- Whether a day is a Monday to Friday whose bit in the byte is 0. The first `return` is a weekend; the second cites that it is none, and reads
-- the bit.
use mathlib.Core.Path.{refl}
use borrow.Author.Tests.{lt-ltb, le-ltb}
use Rattle.calendar_checks.proofs.trades_on.Goals as goal

pub returns-then-weekday-ge5 : goal.returns-then-weekday-ge5
returns-then-weekday-ge5 c = rw (le-ltb _ _ (rw c.weekday.ensures at c.if-weekday-ge5.true)) refl

pub returns : goal.returns
returns c = rw (lt-ltb _ _ (rw c.weekday.ensures at c.if-weekday-ge5.false)) refl
