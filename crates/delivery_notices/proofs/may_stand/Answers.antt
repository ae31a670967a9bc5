-- `may_stand` lets an O stand only where there was none, and another line only after one: the definition's two cases, each by the test.
use mathlib.Core.Path.{refl}
use borrow.Author.Tests.{eq-eqb, ne_eqb}
use Rattle.delivery_notices.proofs.may_stand.Goals as goal

pub returns-then-letter-eq79 : goal.returns-then-letter-eq79
returns-then-letter-eq79 c = rw (eq-eqb _ _ c.if-letter-eq79.true) refl

pub returns : goal.returns
returns c = rw (ne_eqb _ _ c.if-letter-eq79.false) refl
