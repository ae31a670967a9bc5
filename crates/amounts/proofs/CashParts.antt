-- Cash in 64 bits: the size is taken apart into whole shares and ten-thousandths, and the two products put together.
-- Assumes nothing.
use Prim.Native.Nat.{ℕ, zero, suc, ◌+◌, ◌-◌, ◌*◌, ◌/◌, ◌%◌, ◌≤◌, ◌<◌}
use mathlib.Core.Path.{◌≡◌, refl, ◌∙◌, sym, ap}
use mathlib.Core.Bool.{Bool, true, false, ◌&&◌, cond}
use mathlib.Core.Logic.{◌⊎◌, inl, inr}
use native.Mathlib.Nat.{mul_assoc, mul_comm, mul-add, mul-le-mul}
use native.Mathlib.Omega.{arith}
use Rattle.std.specs.Int.{abs_diff}
use Rattle.std.proofs.lemmas.Bool.Decides.{nat_tests}
use lib.Dec.{leb, ltb}
use lib.IntN.{ℤ, pos, negsuc, neg_ℤ, nat_abs, ◌-ℤ◌, ◌*ℤ◌}
use borrow.Author.Tests.{leb-true, lt-ltb, le-ltb}
use Rattle.questions.proofs.Bools.{and-fst, and-snd, lt-or-ge}
use Rattle.product.specs.Fields.{size_right}
use Rattle.amounts.specs.declared.Amount.{Amount}
use Rattle.amounts.specs.Prices.{price_right, final_right, contracts_right, cash_amount, below, cash_parts, cash_admitted, distance, signed, Parts, WholeSizes}

-- how far two prices are apart, as the library's method has it
pub far-apart : (a f : ℕ) → abs_diff a f ≡ distance a f
unfolding distance
far-apart a f = grind (arith, nat_tests)

-- the difference of two prices
rise : (a f : ℕ) → a ≤ f → pos f -ℤ pos a ≡ pos (f - a)
rise zero f h = ap pos (omega arith)
rise (suc a) f h = rw (le-ltb f (suc a) h)

fall : (a f : ℕ) → f < a → pos f -ℤ pos a ≡ negsuc (a - suc f)
fall zero f h = absurd (omega arith)
fall (suc a) f h = rw (lt-ltb f (suc a) h)

negated : (m : ℕ) → 1 ≤ m → (below (neg_ℤ (pos m)) ≡ true) × (nat_abs (neg_ℤ (pos m)) ≡ m)
negated zero h = absurd (omega arith)
negated (suc m) h = (refl, refl)

module _ (n a f : ℕ) (h : 1 ≤ n) where
  -- the sign and the size of n × (f − a)
  sized : (below (pos n *ℤ (pos f -ℤ pos a)) ≡ ltb f a) × (nat_abs (pos n *ℤ (pos f -ℤ pos a)) ≡ n * distance a f)
  unfolding distance
  sized = go (lt-or-ge f a)
    where
      go : (f < a) ⊎ (a ≤ f) → (below (pos n *ℤ (pos f -ℤ pos a)) ≡ ltb f a) × (nat_abs (pos n *ℤ (pos f -ℤ pos a)) ≡ n * distance a f)
      go (inl l) =
          let e : suc (a - suc f) ≡ a - f = omega arith in
          let m = negated (n * suc (a - suc f)) (mul-le-mul {n₁ = 1} {m₁ = 1} {n₂ = n} {m₂ = suc (a - suc f)} h (omega arith)) in
          rw (fall a f l, lt-ltb f a l) (m.0, m.1 ∙ ap (λ (k : ℕ). n * k) e)
      go (inr l) = rw (rise a f l, le-ltb f a l) (refl, refl)

-- contracts × size × change, with the size in two parts
module _ (contracts size change : ℕ) where
  abbrev over : ℕ
  over = contracts * change

  regrouped : contracts * size * change ≡ 10000 * (over * (size / 10000)) + over * (size % 10000)
  regrouped =
      let s : size ≡ size / 10000 * 10000 + size % 10000 = omega arith in
      let p : contracts * size * change ≡ over * size =
      mul_assoc contracts size change ∙ ap (λ (k : ℕ). contracts * k) (mul_comm size change) ∙ sym (mul_assoc contracts change size) in
      let q : over * size ≡ over * (size / 10000 * 10000) + over * (size % 10000) =
      ap (λ (k : ℕ). over * k) s ∙ mul-add over (size / 10000 * 10000) (size % 10000) in
      let r : over * (size / 10000 * 10000) ≡ 10000 * (over * (size / 10000)) =
      sym (mul_assoc over (size / 10000) 10000) ∙ mul_comm (over * (size / 10000)) 10000 in
      p ∙ q ∙ ap (λ (k : ℕ). k + over * (size % 10000)) r

  -- the amount is the one of the whole shares plus the whole part of the one of the ten-thousandths
  pub amount-is : contracts * size * change / 10000 ≡ over * (size / 10000) + over * (size % 10000) / 10000
  amount-is = ap (λ (k : ℕ). k / 10000) regrouped ∙ omega arith

  -- the rest is the one of the ten-thousandths of the size alone
  pub rest-is : contracts * size * change % 10000 ≡ over * (size % 10000) % 10000
  rest-is = ap (λ (k : ℕ). k % 10000) regrouped ∙ omega arith

pub record Bounds (contracts size agreed final : ℕ) : Type 0 where
  -- there is at least 1 contract
  pub contracts-some : 1 ≤ contracts
  -- there are at most 100,000 contracts
  pub contracts-most : contracts ≤ 100000
  -- the size is at least one ten-thousandth of a share
  pub size-some : 1 ≤ size
  -- the size is at most 65,535.9999 shares
  pub size-most : size ≤ 655359999
  -- the agreed price is at most 999,999,999
  pub agreed-most : agreed ≤ 999999999
  -- the final price is at most 999,999,999
  pub final-most : final ≤ 999999999

-- numbers that cash admits lie in the ranges of their fields
pub bounds : (contracts size agreed final : ℕ) → cash_admitted contracts size agreed final ≡ true → Bounds contracts size agreed final
unfolding cash_admitted
bounds contracts size agreed final e =
    let three = and-fst (price_right agreed && final_right final && contracts_right contracts) (size_right size) e in
    let two = and-fst (price_right agreed && final_right final) (contracts_right contracts) three in
    let c = and-snd (price_right agreed && final_right final) (contracts_right contracts) three in
    let s = and-snd (price_right agreed && final_right final && contracts_right contracts) (size_right size) e in
    record {
      contracts-some = leb-true _ _ (and-fst (leb 1 contracts) (leb contracts 100000) c);
      contracts-most = leb-true _ _ (and-snd (leb 1 contracts) (leb contracts 100000) c);
      size-some = leb-true _ _ (and-fst (leb 1 size) (leb size 655359999) s);
      size-most = leb-true _ _ (and-snd (leb 1 size) (leb size 655359999) s);
      agreed-most = leb-true _ _ (and-snd (leb 1 agreed) (leb agreed 999999999) (and-fst (price_right agreed) (final_right final) two));
      final-most = leb-true _ _ (and-snd (price_right agreed) (final_right final) two);
    }

distance_most : (a f : ℕ) → a ≤ 999999999 → f ≤ 999999999 → distance a f ≤ 999999999
unfolding distance
distance_most a f ha hf = go (ltb f a)
  where
    go : (b : Bool) → cond b (a - f) (f - a) ≤ 999999999
    go true = omega arith
    go false = omega arith

module _ (contracts size agreed final : ℕ) (b : Bounds contracts size agreed final) where
  abbrev change : ℕ
  change = contracts * distance agreed final

  -- contracts times the difference of the prices is at most 100,000 × 999,999,999
  pub change-most : change ≤ 99999999900000
  change-most = mul-le-mul b.contracts-most (distance_most agreed final b.agreed-most b.final-most)

  -- contracts times the difference times the whole shares of the size is at most 6,553,499,993,446,500,000
  pub whole-most : change * (size / 10000) ≤ 6553499993446500000
  whole-most = let h : size / 10000 ≤ 65535 = omega (arith, b.size-most) in mul-le-mul change-most h

  -- contracts times the difference times the ten-thousandths of the size is at most 999,899,999,000,100,000
  pub parts-most : change * (size % 10000) ≤ 999899999000100000
  parts-most = let h : size % 10000 ≤ 9999 = omega arith in mul-le-mul change-most h

  -- the code's sign, amount and rest are those of the cash amount
  pub cash-is : ◌≡◌ {A = Amount} (record {
    negative = ltb final agreed;
    amount = change * (size / 10000) + change * (size % 10000) / 10000;
    rest =
        change * (size % 10000) % 10000;
  }) (cash_parts (cash_amount contracts size agreed final))
  unfolding cash_parts
  cash-is =
      let s = sized (contracts * size) agreed final (mul-le-mul {n₁ = 1} {m₁ = 1} {n₂ = contracts} {m₂ = size} b.contracts-some b.size-some) in
      rw (s.0, s.1, amount-is contracts size (distance agreed final), rest-is contracts size (distance agreed final))

signed_is : (z : ℤ) → signed (below z) (nat_abs z) ≡ z
signed_is (pos n) = refl
signed_is (negsuc n) = refl

-- 'the sign covering both': the parts are the value
pub parts : (z : ℤ) → Parts z
unfolding cash_parts
parts z = record { value = ap (signed (below z)) joined ∙ signed_is z; rest = omega arith }
  where
    joined : 10000 * (nat_abs z / 10000) + nat_abs z % 10000 ≡ nat_abs z
    joined = omega arith

-- ten thousand times a value has its sign and ten thousand times its size
scaled-negative : (m : ℕ) → (below (neg_ℤ (pos (10000 * m))) ≡ below (neg_ℤ (pos m))) × (nat_abs (neg_ℤ (pos (10000 * m))) ≡ 10000 * nat_abs (neg_ℤ (pos m)))
scaled-negative zero = (refl, refl)
scaled-negative (suc m) = negated (10000 * suc m) (omega arith)

scaled : (n : ℕ) (z : ℤ) → (below (pos (10000 * n) *ℤ z) ≡ below (pos n *ℤ z)) × (nat_abs (pos (10000 * n) *ℤ z) ≡ 10000 * nat_abs (pos n *ℤ z))
scaled n (pos k) = (refl, mul_assoc 10000 n k)
scaled n (negsuc k) = rw (mul_assoc 10000 n (suc k)) (scaled-negative (n * suc k))

-- 'whole sizes give the old amount and rest 0'
pub whole-size : (contracts shares agreed final : ℕ) → WholeSizes contracts shares agreed final
unfolding cash_parts
whole-size contracts shares agreed final =
    record {
      amount = rw (new.0, new.1, quotient) (signed_is old);
      rest = rw new.1 (omega arith);
    }
  where
    old : ℤ
    old = cash_amount contracts shares agreed final

    new : (below (cash_amount contracts (10000 * shares) agreed final) ≡ below old)
        × (nat_abs (cash_amount contracts (10000 * shares) agreed final) ≡ 10000 * nat_abs old)
    new = rw (sym (mul_assoc contracts 10000 shares), mul_comm contracts 10000, mul_assoc 10000 contracts shares)
        (scaled (contracts * shares) (pos final -ℤ pos agreed))

    quotient : 10000 * nat_abs old / 10000 ≡ nat_abs old
    quotient = omega arith
