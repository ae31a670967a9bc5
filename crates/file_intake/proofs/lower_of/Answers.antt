-- The lower of two refusals, 0 standing for none: the four returns are the cases of `lower`, the last two the lesser of two numbers.
use native.Mathlib.Omega.{arith}
use native.Mathlib.Nat.{min-eq_left, min-eq_right}
use mathlib.Core.Path.{sym}
use borrow.Author.Tests.{eq-eqb, ne_eqb}
use Rattle.file_intake.specs.Intake.{lower}
use Rattle.file_intake.proofs.lower_of.Goals as goal

pub returns-then-a-eq0 : goal.returns-then-a-eq0
unfolding lower
returns-then-a-eq0 c = simp (eq-eqb _ _ c.if-a-eq0.true)

pub returns-then-b-eq0 : goal.returns-then-b-eq0
unfolding lower
returns-then-b-eq0 c = simp (ne_eqb _ _ c.if-a-eq0.false, eq-eqb _ _ c.if-b-eq0.true)

pub returns-then-a-b : goal.returns-then-a-b
unfolding lower
returns-then-a-b c = rw (ne_eqb _ _ c.if-a-eq0.false, ne_eqb _ _ c.if-b-eq0.false) (sym (min-eq_left c.if-a-b.true))

pub returns : goal.returns
unfolding lower
returns c = rw (ne_eqb _ _ c.if-a-eq0.false, ne_eqb _ _ c.if-b-eq0.false) (sym (min-eq_right (omega arith)))
