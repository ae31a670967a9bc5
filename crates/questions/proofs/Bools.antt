-- From tests to facts, and back.
-- Assumes nothing.
use mathlib.Core.Path.{◌≡◌, refl, ◌∙◌, sym}
use mathlib.Core.Bool.{Bool, true, false, ◌&&◌, ◌||◌, true≢false}
use mathlib.Core.Logic.{◌⊎◌, inl, inr}
use Prim.Native.Nat.{ℕ, ◌≤◌, ◌<◌}
use native.Mathlib.Omega.{arith}
use lib.Bits.{bit_or, or_add_and, and_le_l, and_le_r}
use lib.Dec.{eqb, ltb}
use borrow.Author.Tests.{eqb-true, eq-eqb, ltb-true, ltb-false}

-- no answer is both yes and no: from the two anything follows
pub clash {ℓ} : {A : Type ℓ} {b : Bool} → b ≡ true → b ≡ false → A
clash t f = absurd (true≢false (sym t ∙ f))

-- where two answers joined by 'and' are yes, each of them is yes
pub both : (a b : Bool) → (a && b) ≡ true → (a ≡ true) × (b ≡ true)
both true b e = (refl, e)
both false b e = clash e refl

-- where two answers joined by 'and' are yes, the first is yes
pub and-fst : (a b : Bool) → (a && b) ≡ true → a ≡ true
and-fst a b e = (both a b e).0

-- where two answers joined by 'and' are yes, the second is yes
pub and-snd : (a b : Bool) → (a && b) ≡ true → b ≡ true
and-snd a b e = (both a b e).1

-- where each of two answers is yes, the two joined by 'and' are yes
pub and_both : {a b : Bool} → a ≡ true → b ≡ true → (a && b) ≡ true
and_both p q = rw (p, q)

-- where the first of two answers is yes, the two joined by 'or' are yes
pub or_left : {a : Bool} (b : Bool) → a ≡ true → (a || b) ≡ true
or_left b p = rw p

-- where the second of two answers is yes, the two joined by 'or' are yes
pub or_right : (a : Bool) {b : Bool} → b ≡ true → (a || b) ≡ true
or_right true p = refl
or_right false p = p

-- where two answers joined by 'or' are yes, the first or the second is yes
pub or-either : (a b : Bool) → (a || b) ≡ true → (a ≡ true) ⊎ (b ≡ true)
or-either true b e = inl refl
or-either false b e = inr e

-- a test that is true of no case is false
pub is_false : (b : Bool) → (b ≡ true → ⊥) → b ≡ false
is_false true h = absurd (h refl)
is_false false h = refl

-- two tests that follow from each other are one
pub same_test : (a b : Bool) → (a ≡ true → b ≡ true) → (b ≡ true → a ≡ true) → a ≡ b
same_test true b f g = sym (f refl)
same_test false true f g = g refl
same_test false false f g = refl

-- what `if !f()` leaves of f's result
pub said-no : {r a : Bool} → r ≡ a → r ≡ false → a ≡ false
said-no e t = sym e ∙ t

-- an answer whose negation is no is yes
pub said-yes : {r a : Bool} → r ≡ a → r ≡ true → a ≡ true
said-yes e t = sym e ∙ t

-- of two numbers, the first is below the second, or the second is at most the first
pub lt-or-ge : (m n : ℕ) → (m < n) ⊎ (n ≤ m)
lt-or-ge m n = go (ltb m n) refl
  where
    go : (b : Bool) → ltb m n ≡ b → (m < n) ⊎ (n ≤ m)
    go true e = inl (ltb-true m n e)
    go false e = inr (ltb-false m n e)

-- numbers that have no bit together are zero
pub or-zero : (a b : ℕ) → eqb (bit_or a b) 0 ≡ (eqb a 0 && eqb b 0)
or-zero a b =
    same_test _ _
    (λ h.
    let z : bit_or a b ≡ 0 = eqb-true _ _ h in
    let x : a ≡ 0 = omega (arith, z, or_add_and a b, and_le_r a b) in
    let y : b ≡ 0 = omega (arith, z, or_add_and a b, and_le_l a b) in
    and_both (eq-eqb a 0 x) (eq-eqb b 0 y))
    (λ h.
    let (x, y) = both (eqb a 0) (eqb b 0) h in
    let p : a ≡ 0 = eqb-true _ _ x in
    let q : b ≡ 0 = eqb-true _ _ y in
    eq-eqb (bit_or a b) 0 (rw (p, q)))
