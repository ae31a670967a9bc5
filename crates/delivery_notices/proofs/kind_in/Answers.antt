-- `kind_in` numbers the letters R, E and M by 0, 2 and 3 and every other by 1: the definition's tests in their order, each return by those before it.
use mathlib.Core.Path.{refl}
use borrow.Author.Tests.{eq-eqb, ne_eqb}
use Rattle.delivery_notices.specs.NoticeLists.{kind_in}
use Rattle.delivery_notices.proofs.kind_in.Goals as goal

pub returns-then-letter-eq82 : goal.returns-then-letter-eq82
unfolding kind_in
returns-then-letter-eq82 c = rw (eq-eqb _ _ c.if-letter-eq82.true) refl

pub returns-then-letter-eq69 : goal.returns-then-letter-eq69
unfolding kind_in
returns-then-letter-eq69 c = rw (ne_eqb _ _ c.if-letter-eq82.false, eq-eqb _ _ c.if-letter-eq69.true) refl

pub returns-then-letter-eq77 : goal.returns-then-letter-eq77
unfolding kind_in
returns-then-letter-eq77 c = rw (ne_eqb _ _ c.if-letter-eq82.false, ne_eqb _ _ c.if-letter-eq69.false, eq-eqb _ _ c.if-letter-eq77.true) refl

pub returns : goal.returns
unfolding kind_in
returns c = rw (ne_eqb _ _ c.if-letter-eq82.false, ne_eqb _ _ c.if-letter-eq69.false, ne_eqb _ _ c.if-letter-eq77.false) refl
