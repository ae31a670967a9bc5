-- What a measure comes to, question by question.
-- Assumes nothing.
use mathlib.Core.Path.{◌≡◌, refl, ◌∙◌, sym, ap}
use mathlib.Core.Bool.{Bool, true, false}
use mathlib.Core.List.{List, ◌∷◌}
use Prim.Native.Nat.{ℕ, suc, ◌<◌}
use native.Mathlib.Omega.{arith}
use lib.Dec.{eqb-suc-zero}
use Rattle.questions.specs.Questions.{Ask, ask, first_no}
use Rattle.questions.proofs.Asks.{first-no}
use Rattle.amounts.specs.Prices.{new_size, new_price, measure_right}
use Rattle.amounts.proofs.Rounding.{in-range}
use Rattle.table.specs.declared.Table.{Table}
use Rattle.table.specs.Table.{sound}
use Rattle.table_measures.specs.declared.Measured.{Measured}
use Rattle.table_measures.specs.Measures.{resized, measure_asks, measured_by, unmeasured, measure_call}

module _ (t : Table) (p q price : ℕ) where
  -- the first question answered no
  pub refused-is : (n : ℕ) → first_no (measure_asks t p q price) ≡ suc n → unmeasured t (suc n) ≡ measure_call t p q price
  unfolding measure_call
  refused-is n e = rw (e, eqb-suc-zero n)

  -- no question answered no
  pub accepted-is : first_no (measure_asks t p q price) ≡ 0 → measure_call t p q price ≡ measured_by t p q price
  unfolding measure_call
  accepted-is e = rw e

  -- where the first of the questions left is answered no, its number is the refusal
  pub measure-no : (n : ℕ) {b : Bool} (rest : List Ask) → first_no (measure_asks t p q price) ≡ first_no (ask (suc n) b ∷ rest) → b ≡ false
      → unmeasured t (suc n) ≡ measure_call t p q price
  measure-no n rest e f = refused-is n (e ∙ first-no (suc n) rest f)

  -- a measure of an unsound table gives refusal 10
  pub measure-10 : sound t ≡ false → unmeasured t 10 ≡ measure_call t p q price
  unfolding measure_asks
  measure-10 a = measure-no 9 _ refl a

  -- where no question refuses: the code's new size, table and new price
  pub measure-yes : (changed moved : ℕ) (t' : Table) → first_no (measure_asks t p q price) ≡ 0 → changed ≡ new_size t.product.size p q
      → t' ≡ resized t changed → moved ≡ new_price price t.product.size changed
      → ◌≡◌ {A = Measured} (record { refusal = 0; table = t'; price = moved }) (measure_call t p q price)
  measure-yes changed moved t' e x y z = rw (z, y, x) (sym (accepted-is e))

-- the new size and the new price fit 32 bits
module _ (size p q price : ℕ) (e : measure_right size p q price ≡ true) where
  -- the new size of a measure that passes 29 fits 32 bits
  pub size_fits : (changed : ℕ) → changed ≡ new_size size p q → changed < 4294967296
  size_fits changed x = omega (arith, x, (in-range size p q price e).size-most)

  -- the new price of a measure that passes 29 fits 32 bits
  pub price-fits : (changed moved : ℕ) → changed ≡ new_size size p q → moved ≡ new_price price size changed → moved < 4294967296
  price-fits changed moved x z = omega (arith, z, ap (new_price price size) x, (in-range size p q price e).price-most)
