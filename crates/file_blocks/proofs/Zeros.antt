-- Bytes that have no bit together are zero; the zero bytes that a list has.
-- Assumes nothing.
use mathlib.Core.Path.{◌≡◌, refl, ◌∙◌, sym, ap}
use mathlib.Core.Bool.{Bool, true, ◌&&◌}
use mathlib.Core.Logic.{◌⊎◌, inl, inr}
use mathlib.Core.List.{List}
use Prim.Native.Nat.{ℕ, ◌+◌, ◌-◌, ◌≤◌, ◌<◌}
use Rattle.std.proofs.Common.{min}
use native.Mathlib.Omega.{arith}
use native.Mathlib.Numerals.{add-one}
use lib.Bits.{bit_or}
use lib.Dec.{eqb}
use lib.ListN.{length, take, drop, get_or, length-drop, get_or-eq_default}
use lib.Seq.{get_or-take, get_or-drop, length-take-le}
use Rattle.questions.specs.Search.{every}
use Rattle.questions.proofs.Search.{every-all, every-at}
use Rattle.questions.proofs.Bools.{or-zero, same_test, lt-or-ge}
use Rattle.file_blocks.specs.Blocks.{zeros}

-- of no bytes all are zero, as 0 has no bit
pub zeros-none : (b : List ℕ) (at : ℕ) → eqb 0 0 ≡ zeros b at 0
unfolding zeros every
zeros-none b at = refl

-- the bits of one byte more, joined to those before, are none exactly where all these bytes are zero
pub zeros-more : (b : List ℕ) (at i bits : ℕ) → eqb bits 0 ≡ zeros b at i → eqb (bit_or bits (get_or b (at + i) 0)) 0 ≡ zeros b at (i + 1)
unfolding zeros every
zeros-more b at i bits e = or-zero bits (get_or b (at + i) 0) ∙ ap (λ (x : Bool). x && eqb (get_or b (at + i) 0) 0) e ∙ rw (add-one i)

-- the bytes from `at` on, n of them, are zero just where those of them that the list has are zero, since one past the end counts as 0
pub zeros-within : (b : List ℕ) (at n first end : ℕ) → first ≡ min at (length b) → end ≡ min (first + n) (length b)
    → zeros (take (end - first) (drop first b)) 0 (length (take (end - first) (drop first b))) ≡ zeros b at n
unfolding zeros
zeros-within b at n first end f e =
    same_test _ _
    (λ t. every-all _ n (λ i h. inside t i h (lt-or-ge (at + i) (length b))))
    (λ t. every-all _ (length part) (λ i h. ap (λ (x : ℕ). eqb x 0) (read i (omega (arith, h, long)) (omega (arith, h, long))) ∙ every-at _ n i t (omega (arith, h, long))))
  where
    part : List ℕ
    part = take (end - first) (drop first b)

    long : length (take (end - first) (drop first b)) ≡ end - first
    long = length-take-le (end - first) (drop first b) (omega (arith, length-drop first b))

    read : (i : ℕ) → i < end - first → at + i < length b → get_or (take (end - first) (drop first b)) (0 + i) 0 ≡ get_or b (at + i) 0
    read i h l =
        let s : first + (0 + i) ≡ at + i = omega arith in
        get_or-take (end - first) (drop first b) (0 + i) 0 (omega arith) ∙ get_or-drop first b (0 + i) 0 ∙ ap (λ (k : ℕ). get_or b k 0) s

    inside : every (length (take (end - first) (drop first b))) (λ i. eqb (get_or (take (end - first) (drop first b)) (0 + i) 0) 0) ≡ true → (i : ℕ) → i < n
        → (at + i < length b) ⊎ (length b ≤ at + i) → eqb (get_or b (at + i) 0) 0 ≡ true
    inside t i h (inl l) =
        ap (λ (x : ℕ). eqb x 0) (sym (read i (omega arith) l)) ∙ every-at _ (length (take (end - first) (drop first b))) i t (omega (arith, long))
    inside t i h (inr l) = ap (λ (x : ℕ). eqb x 0) (get_or-eq_default b 0 l)
