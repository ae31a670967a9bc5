-- Question 4 of the next block: a calendar block where its turn and its year are right, else a product block that is not the first.
-- The two returns are the two cases of the block's kind in `in_turn`; that the sums and casts fit is found by search.
use mathlib.Core.Path.{sym, ◌∙◌}
use native.Mathlib.Numerals.{add-one}
use borrow.Author.Tests.{eq-eqb, ne_eqb}
use Rattle.file_intake.specs.Intake.{in_turn}
use Rattle.file_intake.proofs.in_turn.Goals as goal

pub returns-then-kind-ne1 : goal.returns-then-kind-ne1
unfolding in_turn
returns-then-kind-ne1 c = simp (c.byte_at-kind.ensures, ne_eqb _ _ (λ h. c.if-kind-ne1.true (c.byte_at-kind.ensures ∙ h)))

pub returns : goal.returns
unfolding in_turn
returns c =
    simp (
      c.first_year_of-first.ensures,
      c.field_at-year.ensures,
      eq-eqb _ _ (sym c.byte_at-kind.ensures ∙ c.if-kind-ne1.false),
      add-one,
    )
