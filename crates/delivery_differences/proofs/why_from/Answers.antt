-- `why_from` gives the reason why a key differs: the definition's tests in their order. A key that was not delivered is missing or does not
-- differ (`why-missing`, `why-same`), one that is not listed is extra (`why-extra`); each other return is by its own test and those before it.
use mathlib.Core.Path.{refl, ◌∙◌, sym}
use Rattle.delivery_differences.specs.Differences.{why_from}
use Rattle.delivery_differences.proofs.KeyRows.{why-missing, why-same, why-extra}
use borrow.Author.Tests.{eq-eqb, ne_eqb}
use Rattle.delivery_differences.proofs.why_from.Goals as goal

pub returns-then-is_some : goal.returns-then-is_some
returns-then-is_some c = rw c.in_default.is (why-missing _ (sym c.is_some.ensures ∙ c.if-is_some.true))

pub returns-else-is_some : goal.returns-else-is_some
returns-else-is_some c = rw c.in_default.is (why-same _ (sym c.is_some.ensures ∙ c.if-is_some.false))

pub returns-in_default-right : goal.returns-in_default-right
returns-in_default-right c = rw (c.in-Some.is, c.in_default-right.is) (why-extra _ _)

pub returns-then-d : goal.returns-then-d
unfolding why_from
returns-then-d c = rw (c.in-Some.is, c.in-Some-right.is, c.if-d.true) refl

pub returns-then-m-row : goal.returns-then-m-row
unfolding why_from
returns-then-m-row c = rw (c.in-Some.is, c.in-Some-right.is, c.if-d.false, ne_eqb _ _ c.if-m-row.true) refl

pub returns-then-row-m : goal.returns-then-row-m
unfolding why_from
returns-then-row-m c = rw (c.in-Some.is, c.in-Some-right.is, c.if-d.false, eq-eqb _ _ c.if-m-row.false, c.if-row-m.true) refl

pub returns-then-row-m-2 : goal.returns-then-row-m-2
unfolding why_from
returns-then-row-m-2 c = rw (
  c.in-Some.is,
  c.in-Some-right.is,
  c.if-d.false,
  eq-eqb _ _ c.if-m-row.false,
  c.if-row-m.false,
  c.if-row-m-2.true,
) refl

pub returns : goal.returns
unfolding why_from
returns c = rw (
  c.in-Some.is,
  c.in-Some-right.is,
  c.if-d.false,
  eq-eqb _ _ c.if-m-row.false,
  c.if-row-m.false,
  c.if-row-m-2.false,
) refl
