-- `concerns` says whether a notice is a call of a product: one that is no
-- measure always is, a measure where `same_id` says so; each return by the test.
use borrow.Author.Tests.{eq-eqb, ne_eqb}
use Rattle.delivery_tables.proofs.concerns.Goals as goal

pub returns-then-kind-ne3 : goal.returns-then-kind-ne3
returns-then-kind-ne3 c = rw (ne_eqb _ _ c.if-kind-ne3.true)

pub returns : goal.returns
returns c = rw (eq-eqb _ _ c.if-kind-ne3.false) c.same_id.ensures
