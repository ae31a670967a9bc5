-- What the code gives, case by case.
-- Assumes nothing.
use mathlib.Core.Path.{◌≡◌, refl}
use mathlib.Core.Bool.{true, false}
use borrow.Author.Tests.{eq-eqb, ne_eqb}
use Rattle.product.specs.Fields.{kind_of, kind_right, zero_product}
use Rattle.table.specs.declared.Outcome.{Outcome}
use Rattle.table_measures.specs.declared.Measured.{Measured}
use Rattle.c_types.specs.declared.FlatProduct.{FlatProduct}
use Rattle.c_types.specs.declared.FlatTable.{FlatTable}
use Rattle.c_types.specs.Flat.{unflat_product, flat_outcome, refused_on, outcome_on, flat_measured, unmeasured_on, measured_on}

module _ (t : FlatTable) where
  -- a refused call gives its number and the flat table as it came
  pub outcome-no : (o : Outcome) → (o.refusal ≡ 0 → ⊥) → refused_on t o.refusal ≡ outcome_on t o
  unfolding outcome_on
  outcome-no o no_zero = rw (ne_eqb o.refusal 0 no_zero) refl

  -- an accepted call gives all that the call on the table gave
  pub outcome-yes : (o : Outcome) → o.refusal ≡ 0 → flat_outcome o ≡ outcome_on t o
  unfolding outcome_on
  outcome-yes o zero = rw (eq-eqb o.refusal 0 zero) refl

  -- a refused measure gives its number, price 0 and the flat table as it came
  pub measured-no : (m : Measured) → (m.refusal ≡ 0 → ⊥) → unmeasured_on t m.refusal ≡ measured_on t m
  unfolding measured_on
  measured-no m no_zero = rw (ne_eqb m.refusal 0 no_zero) refl

  -- an accepted measure gives all that the measure on the table gave
  pub measured-yes : (m : Measured) → m.refusal ≡ 0 → flat_measured m ≡ measured_on t m
  unfolding measured_on
  measured-yes m zero = rw (eq-eqb m.refusal 0 zero) refl

module _ (p : FlatProduct) where
  -- a flat product whose kind number is no kind stands for the product of zeros
  pub product-no : kind_right p.kind ≡ false → zero_product ≡ unflat_product p
  unfolding unflat_product
  product-no wrong = rw wrong refl

  -- a flat product whose kind number is a kind stands for the product with its fields and that kind
  pub product-yes : kind_right p.kind ≡ true
      → record { id = p.id; group = p.group; market = p.market; kind = kind_of p.kind; size = p.size; tick = p.tick; currency = p.currency }
      ≡ unflat_product p
  unfolding unflat_product
  product-yes right = rw right refl
