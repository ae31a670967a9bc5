-- A measure keeps the contract's value and leaves a sound table sound; a refused one gives the table back as it came.
-- Assumes nothing.
use mathlib.Core.Path.{◌≡◌, refl, ap}
use mathlib.Core.Bool.{true}
use mathlib.Core.List.{[]}
use Prim.Native.Nat.{ℕ, zero, suc}
use native.Mathlib.Omega.{arith}
use Rattle.questions.specs.Questions.{first_no}
use Rattle.questions.proofs.Bools.{both, and_both}
use Rattle.questions.proofs.Asks.{none-no}
use Rattle.product.specs.declared.Kind.{Kind}
use Rattle.product.specs.declared.Product.{Product}
use Rattle.product.specs.Fields.{size_right, is_future, product_right}
use Rattle.product.proofs.RightFields.{fields-with-size}
use Rattle.amounts.specs.Prices.{price_right, new_size, ratio_right, measure_right}
use Rattle.amounts.proofs.Rounding.{value-kept, InRange, in-range}
use Rattle.table.specs.declared.Table.{Table}
use Rattle.table.specs.Table.{lists_fresh, sound}
use Rattle.table_measures.proofs.MeasureQuestions.{accepted-is, refused-is}
use Rattle.table_measures.specs.declared.Measured.{Measured}
use Rattle.table_measures.specs.Measures.{with_size, resized, measure_asked, measure_asks, measure_call, ValueKept, GivenBack}

-- the new size and the new price of an accepted measure are in range (29)
pub asked-range : (kind : Kind) (size p q price : ℕ) → first_no (measure_asked kind size p q price) ≡ 0 → InRange size p q price
asked-range kind size p q price e =
    let (a, e1) = none-no 18 (price_right price) _ e in
    let (b, e2) = none-no 20 (is_future kind) _ e1 in
    let (c, e3) = none-no 27 (ratio_right p q) _ e2 in
    let (d, e4) = none-no 28 (measure_right size p q price) [] e3 in
    in-range size p q price d

-- a product with another size in range is right (7)
pub right-size : (p : Product) (size : ℕ) → product_right p ≡ true → size_right size ≡ true → product_right (with_size p size) ≡ true
unfolding product_right
right-size p size e s = fields-with-size _ _ _ _ _ _ _ e size s

-- so is the table (10)
pub resized-sound : (t : Table) (size : ℕ) → sound t ≡ true → size_right size ≡ true → sound (resized t size) ≡ true
unfolding sound lists_fresh
resized-sound t size e s =
    let (a, rest) = both (product_right t.product) _ e in
    and_both (right-size t.product size a s) rest

module _ (t : Table) (p q price : ℕ) where
  -- the questions of an accepted measure
  asks_none : (measure_call t p q price).refusal ≡ 0 → first_no (measure_asks t p q price) ≡ 0
  asks_none e = go (first_no (measure_asks t p q price)) refl
    where
      go : (n : ℕ) → first_no (measure_asks t p q price) ≡ n → first_no (measure_asks t p q price) ≡ 0
      go zero z = z
      go (suc n) z = absurd (omega (arith, e, ap (λ (m : Measured). m.refusal) (refused-is t p q price n z)))

  -- 'so that the contract's value is kept'
  pub contract-kept : (measure_call t p q price).refusal ≡ 0 → ValueKept t p q price
  unfolding measure_asks
  contract-kept e =
      let z = asks_none e in
      let (a, rest) = none-no 9 (sound t) _ z in
      let is = accepted-is t p q price z in
      let r = asked-range t.product.kind t.product.size p q price rest in
      let k = value-kept price t.product.size (new_size t.product.size p q) r.size-some in
      record {
        above = rw is k.above;
        under = rw is k.under;
        untouched = rw is;
        stays-sound = rw is (resized-sound t (new_size t.product.size p q) a r.size-right);
      }

  -- a refused measure gives the table back as it came, and price 0
  pub given_back : ((measure_call t p q price).refusal ≡ 0 → ⊥) → GivenBack t p q price
  given_back n = go (first_no (measure_asks t p q price)) refl
    where
      go : (m : ℕ) → first_no (measure_asks t p q price) ≡ m → GivenBack t p q price
      go zero z = let r : (measure_call t p q price).refusal ≡ 0 = rw (accepted-is t p q price z) in absurd (n r)
      go (suc m) z = let is = refused-is t p q price m z in record { same = rw (← is); no-price = rw (← is) }
