-- Bytes of maps: bytes without a day, and bytes with only the days of another.
-- Assumes nothing.
use mathlib.Core.Path.{◌≡◌, refl, ◌∙◌, sym, ap, ap₂}
use mathlib.Core.Bool.{Bool, true, false, not, ◌&&◌, ◌||◌, and-true, and_assoc}
use mathlib.Core.List.{List, [], ◌∷◌}
use Prim.Native.Nat.{ℕ, zero, suc, ◌+◌, ◌-◌, ◌*◌, ◌/◌, ◌%◌, ◌^◌, ◌≤◌, ◌<◌}
use native.Mathlib.Nat.{zero-div}
use native.Mathlib.Omega.{arith}
use lib.Bits.{bit_or, or_add_and, and_le_r}
use lib.Dec.{eqb}
use lib.ListN.{get_or, length}
use Rattle.std.specs.List.{fold}
use borrow.Author.Tests.{eqb-true, eq-eqb, eqb-false}
use Rattle.questions.specs.Search.{every}
use Rattle.questions.proofs.Bools.{same_test, or-zero}
use Rattle.questions.proofs.Search.{every-at, every-all}
use Rattle.calendar.specs.Bits.{byte_bit, bit_at}
use Rattle.calendar_words.proofs.DayWords.{all-zero, within, every-same}

-- a byte with no day is 0
pub byte-none : (x : ℕ) → x < 256 → eqb x 0 ≡ every 8 (λ p. not (byte_bit x p))
byte-none x l =
    same_test _ _
    (λ h.
    let z : x ≡ 0 = eqb-true _ _ h in
    every-all (λ p. not (byte_bit x p)) 8 (λ p k.
    ap (λ (n : ℕ). not (eqb n 1)) (ap (λ (n : ℕ). n / 2 ^ (7 - p) % 2) z ∙ ap (λ (n : ℕ). n % 2) (zero-div (2 ^ (7 - p))))))
    (λ h.
    eq-eqb x 0
    (all-zero 8 x l
    (λ j k.
    let e : 7 - (7 - j) ≡ j = omega arith in
    off (x / 2 ^ j % 2) (omega arith) (rw e at (every-at (λ p. not (byte_bit x p)) 8 (7 - j) h (omega arith))))))
  where
    off : (n : ℕ) → n < 2 → not (eqb n 1) ≡ true → n ≡ 0
    off n b h = let z : (n ≡ 1 → ⊥) = eqb-false _ _ (no (eqb n 1) h) in omega arith
      where
        no : (a : Bool) → not a ≡ true → a ≡ false
        no true e = sym e
        no false e = refl

-- a byte has only days of another where their or is the other
pub byte-within : (x y : ℕ) → x < 256 → y < 256 → eqb (bit_or x y - x) 0 ≡ every 8 (λ p. not (byte_bit y p) || byte_bit x p)
byte-within x y l m =
    same_test (eqb (bit_or x y - x) 0) (eqb (bit_or x y) x)
    (λ h. let z : bit_or x y - x ≡ 0 = eqb-true _ _ h in eq-eqb (bit_or x y) x (omega (arith, z, or_add_and x y, and_le_r x y)))
    (λ h. let z : bit_or x y ≡ x = eqb-true _ _ h in eq-eqb (bit_or x y - x) 0 (omega arith)) ∙
    within 8 x y l m

-- a byte of a map, from a place on, has no day; one of a map has only days of another
abbrev pub none_in : List ℕ → ℕ → ℕ → Bool
none_in map at k = every 8 (λ p. not (byte_bit (get_or map (at + k) 0) p))

-- byte k of the second map has only days that byte k of the first map has
abbrev pub within_in : List ℕ → List ℕ → ℕ → Bool
within_in first second k = every 8 (λ p. not (byte_bit (get_or second k 0) p) || byte_bit (get_or first k 0) p)

-- a test over one number more at the front
every-front : (n : ℕ) (f : ℕ → Bool) → every (suc n) f ≡ (f 0 && every n (λ k. f (suc k)))
unfolding every
every-front zero f = sym (and-true (f 0))
every-front (suc n) f = ap (λ (b : Bool). b && f (suc n)) (every-front n f) ∙ and_assoc (f 0) (every n (λ k. f (suc k))) (f (suc n))

-- numbers taken together, bit by bit, from a on: 0 just where a is, and where each of them is
pub together : {A : Type 0} (h : A → ℕ) (z : A) (test : ℕ → Bool) (xs : List A) (a : ℕ)
    → ((k : ℕ) → k < length xs → eqb (h (get_or xs k z)) 0 ≡ test k) → eqb (fold (λ d x. bit_or d (h x)) a xs) 0 ≡ (eqb a 0 && every (length xs) test)
unfolding every
together h z test [] a e = sym (and-true (eqb a 0))
together h z test (x ∷ xs) a e =
    together h z (λ k. test (suc k)) xs (bit_or a (h x)) (λ k l. e (suc k) (omega (arith, l))) ∙
    ap (λ (b : Bool). b && every (length xs) (λ k. test (suc k))) (or-zero a (h x)) ∙
    and_assoc (eqb a 0) (eqb (h x) 0) (every (length xs) (λ k. test (suc k))) ∙
    ap (λ (b : Bool). eqb a 0 && (b && every (length xs) (λ k. test (suc k)))) (e 0 (omega arith)) ∙
    ap (λ (b : Bool). eqb a 0 && b) (sym (every-front (length xs) test))

-- a test over bytes and their bits is one over slots
pub every-bits : (g : ℕ → ℕ → Bool) (n : ℕ) → every n (λ k. every 8 (g k)) ≡ every (8 * n) (λ s. g (s / 8) (s % 8))
every-bits g n =
    same_test _ _
    (λ e. every-all (λ s. g (s / 8) (s % 8)) (8 * n)
    (λ s l. every-at (g (s / 8)) 8 (s % 8) (every-at (λ k. every 8 (g k)) n (s / 8) e (omega arith)) (omega arith)))
    (λ e.
    every-all (λ k. every 8 (g k)) n
    (λ k l.
    every-all (g k) 8
    (λ p m.
    let a : (8 * k + p) / 8 ≡ k = omega arith in
    let b : (8 * k + p) % 8 ≡ p = omega arith in
    sym (ap₂ g a b) ∙ every-at (λ s. g (s / 8) (s % 8)) (8 * n) (8 * k + p) e (omega arith))))

-- the bytes of a map after its first k years
pub none_after : (map : List ℕ) (k : ℕ) → k ≤ 16
    → every (736 - 46 * k) (λ i. every 8 (λ p. not (byte_bit (get_or map (46 * k + i) 0) p))) ≡ every (5888 - 368 * k) (λ p. not (bit_at map (368 * k + p)))
unfolding bit_at
none_after map k l =
    let n : 8 * (736 - 46 * k) ≡ 5888 - 368 * k = omega arith in
    every-bits (λ i p. not (byte_bit (get_or map (46 * k + i) 0) p)) (736 - 46 * k) ∙
    ap (λ (m : ℕ). every m (λ s. not (byte_bit (get_or map (46 * k + s / 8) 0) (s % 8)))) n ∙
    every-same (λ s. not (byte_bit (get_or map (46 * k + s / 8) 0) (s % 8))) (λ p. not (byte_bit (get_or map ((368 * k + p) / 8) 0) ((368 * k + p) % 8)))
    (5888 - 368 * k)
    (λ s h.
    let a : 46 * k + s / 8 ≡ (368 * k + s) / 8 = omega arith in
    let b : s % 8 ≡ (368 * k + s) % 8 = omega arith in
    ap₂ (λ (i j : ℕ). not (byte_bit (get_or map i 0) j)) a b)

-- the bytes of two maps
pub all-within : (first second : List ℕ)
    → every 736 (λ k. every 8 (λ p. not (byte_bit (get_or second k 0) p) || byte_bit (get_or first k 0) p)) ≡ every 5888 (λ s. not (bit_at second s) || bit_at first s)
unfolding bit_at
all-within first second = every-bits (λ k p. not (byte_bit (get_or second k 0) p) || byte_bit (get_or first k 0) p) 736
