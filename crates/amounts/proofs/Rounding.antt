-- Rounding to the nearest, halves upward: by quotient and remainder, and at most half a unit off. What question 29 says of a new size and price.
-- Assumes nothing.
use Prim.Native.Nat.{ℕ, ◌+◌, ◌-◌, ◌*◌, ◌/◌, ◌%◌, ◌≤◌, ◌<◌}
use mathlib.Core.Path.{◌≡◌, ◌∙◌, sym, ap}
use mathlib.Core.Bool.{true, false}
use native.Mathlib.Nat.{div-mul-le_self, lt-div-mul-add, div-add-mod', div-eq_of_lt-le, div-zero, mod-lt, add-mul, mul_assoc, mul_comm, mul-le-mul, le_refl}
use native.Mathlib.Omega.{arith}
use lib.Dec.{leb}
use borrow.Author.Tests.{leb-true}
use Rattle.questions.proofs.Bools.{and-fst, and-snd}
use Rattle.product.specs.Fields.{size_right}
use Rattle.amounts.specs.Prices.{nearest, Nearest, new_size, new_price, price_right, measure_right, PriceSizeKept}

doubled : (n b : ℕ) → n * (2 * b) ≡ 2 * (n * b)
doubled n b = sym (mul_assoc n 2 b) ∙ ap (λ (m : ℕ). m * b) (mul_comm n 2) ∙ mul_assoc 2 n b

module _ (a b : ℕ) where
  -- 'nearest to' a / b, 'halves upward': the definition is such a number, and the only one
  pub nearest-is : 1 ≤ b → Nearest a b (nearest a b)
  unfolding nearest
  nearest-is h =
      let n = (2 * a + b) / (2 * b) in
      record {
        above = omega (arith, div-mul-le_self (2 * a + b) (2 * b), doubled n b);
        under = omega (arith, lt-div-mul-add {a = 2 * a + b} {b = 2 * b} (omega arith), doubled n b);
      }

  -- a number that is nearest to the quotient, halves upward, is the one that the definition gives
  pub nearest-only : (n : ℕ) → Nearest a b n → nearest a b ≡ n
  unfolding nearest
  nearest-only n e =
      div-eq_of_lt-le (2 * b)
      (omega (arith, e.above, doubled n b))
      (omega (arith, e.under, doubled n b, add-mul n 1 (2 * b)))

  -- by quotient and remainder: a remainder below one half is left out, one half and above counts as one
  quotient : a / b * b + a % b ≡ a
  quotient = div-add-mod' a b

  -- where the remainder is below one half of the divisor, the nearest number is the quotient
  pub nearest-down : a % b < b - a % b → nearest a b ≡ a / b
  nearest-down h = nearest-only (a / b) (record { above = omega (arith, quotient); under = omega (arith, quotient) })

  -- where the remainder is one half of the divisor or more, the nearest number is the quotient plus 1
  pub nearest-up : b - a % b ≤ a % b → 1 ≤ b → nearest a b ≡ a / b + 1
  nearest-up h some =
      let r : a % b < b = mod-lt a some in
      nearest-only (a / b + 1)
      (record { above = omega (arith, quotient, add-mul (a / b) 1 b); under = omega (arith, quotient, add-mul (a / b) 1 b) })

  -- where the remainder is one half of the divisor or more, the quotient plus 1 is at most the dividend
  pub next-most : b - a % b ≤ a % b → 1 ≤ b → a / b + 1 ≤ a
  next-most h some =
      let r : a % b < b = mod-lt a some in
      omega (arith, quotient, mul-le-mul {n₁ = a / b} {m₁ = 1} {n₂ = a / b} {m₂ = b} (le_refl (a / b)) some)

-- for a divisor of 0 the nearest number is 0
pub nearest-none : (a b : ℕ) → b ≡ 0 → 0 ≡ nearest a b
unfolding nearest
nearest-none a b e = rw e (sym (div-zero (2 * a + 0)))

-- 'differs from the old product by at most half the new size'
pub value-kept : (price size changed : ℕ) → 1 ≤ changed → PriceSizeKept price size changed
unfolding new_price
value-kept price size changed h =
    let n = nearest-is (price * size) changed h in
    record { above = n.above; under = omega (arith, n.under) }

-- a size in range fits 32 bits
pub size-bound : (n : ℕ) → size_right n ≡ true → n ≤ 655359999
size-bound n e = leb-true n 655359999 (and-snd (leb 1 n) (leb n 655359999) e)

-- 29, by its new size
module _ (size p q price : ℕ) where
  -- a new size out of range
  pub measure-no : (n : ℕ) → n ≡ new_size size p q → size_right n ≡ false → false ≡ measure_right size p q price
  unfolding measure_right
  measure-no n e out = rw (sym e, out)

  -- a new size in range
  pub measure-is : (n m : ℕ) → n ≡ new_size size p q → size_right n ≡ true → m ≡ new_price price size n → price_right m ≡ measure_right size p q price
  unfolding measure_right
  measure-is n m e in-range o = rw (sym e, in-range, o)

-- the new size and the new price of a measure that 29 passes
pub record InRange (size p q price : ℕ) : Type 0 where
  -- the new size passes the test of sizes
  pub size-right : size_right (new_size size p q) ≡ true
  -- the new size is at least one ten-thousandth of a share
  pub size-some : 1 ≤ new_size size p q
  -- the new size is at most 65,535.9999 shares
  pub size-most : new_size size p q ≤ 655359999
  -- the new price is at most 999,999,999
  pub price-most : new_price price size (new_size size p q) ≤ 999999999

-- a measure that passes 29 has its new size and its new price in range
pub in-range : (size p q price : ℕ) → measure_right size p q price ≡ true → InRange size p q price
unfolding measure_right
in-range size p q price e =
    let n = new_size size p q in
    let m = new_price price size n in
    let s = and-fst (size_right n) (price_right m) e in
    record {
      size-right = s;
      size-some = leb-true 1 n (and-fst (leb 1 n) (leb n 655359999) s);
      size-most = size-bound n s;
      price-most = leb-true m 999999999 (and-snd (leb 1 m) (leb m 999999999) (and-snd (size_right n) (price_right m) e));
    }
