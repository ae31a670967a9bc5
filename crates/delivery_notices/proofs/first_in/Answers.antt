-- `first_in` gives the p of a measure and the day of another line: the definition's two cases, each by the test.
use mathlib.Core.Path.{refl}
use borrow.Author.Tests.{eq-eqb, ne_eqb}
use Rattle.delivery_notices.specs.NoticeLists.{first_in}
use Rattle.delivery_notices.proofs.first_in.Goals as goal

pub returns-then-letter-eq77 : goal.returns-then-letter-eq77
unfolding first_in
returns-then-letter-eq77 c = rw (eq-eqb _ _ c.if-letter-eq77.true) refl

pub returns : goal.returns
unfolding first_in
returns c = rw (ne_eqb _ _ c.if-letter-eq77.false) refl
