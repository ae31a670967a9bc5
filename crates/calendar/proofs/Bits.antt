-- One bit of a map set or cleared: that bit is 1 or 0, and every other is as it was.
-- Assumes nothing.
use mathlib.Core.Path.{◌≡◌, refl, ◌∙◌, sym, ap, ap₂, subst}
use mathlib.Core.Bool.{Bool, true, false, cond}
use mathlib.Core.Logic.{◌⊎◌, inl, inr, ⊎_elim}
use Prim.Native.Nat.{ℕ, zero, suc, ◌+◌, ◌-◌, ◌*◌, ◌/◌, ◌%◌, ◌^◌, ◌≤◌, ◌<◌, max}
use native.Mathlib.Nat.{div-eq_of_lt, div_self, mul-div_cancel, one-mul, zero-div}
use native.Mathlib.Omega.{arith}
use lib.Dec.{lit<, eqb}
use lib.Arith.{bin_ind}
use lib.Bits.{bit_or, bit_and, or_step, or_shr, or_mod, or_zero_r, or_comm, and_shr, and_mod, and_zero_r}
use mathlib.Core.List.{List}
use lib.ListN.{get_or, length, set, get_or-eq_default}
use lib.Pow.{pow_pos, pow-lt, pow-add, shl_exact}
use lib.Seq.{get_or-set_same, get_or-set_other, set_out, set-set, set_comm}
use borrow.Author.Tests.{eqb-true, eqb-false, eq-eqb}
use Rattle.questions.specs.Search.{every}
use Rattle.questions.proofs.Bools.{clash, lt-or-ge}
use Rattle.questions.proofs.Search.{every-at}
use Rattle.calendar.specs.Bits.{bit_at, set_bit, clear_bit}

or-one : (x : ℕ) → x < 2 → bit_or x 1 ≡ 1
or-one zero h = refl
or-one (suc zero) h = refl
or-one (suc (suc x)) h = absurd (omega arith)

-- bit j of an or is the or of the two bits
or-bit : (a b j : ℕ) → bit_or a b / 2 ^ j % 2 ≡ bit_or (a / 2 ^ j % 2) (b / 2 ^ j % 2)
or-bit a b j = ap (λ (n : ℕ). n % 2) (or_shr a b j) ∙ or_mod (a / 2 ^ j) (b / 2 ^ j) 1

pow-above : (j i : ℕ) → 2 ^ (suc i + j) / 2 ^ j % 2 ≡ 0
pow-above j i =
    ap (λ (n : ℕ). n / 2 ^ j % 2) (pow-add 2 (suc i) j) ∙ ap (λ (n : ℕ). n % 2) (mul-div_cancel (2 ^ suc i) (pow_pos j)) ∙
    (omega arith)

-- a power of two has no other bit
pow-other : (k j : ℕ) → (j ≡ k → ⊥) → 2 ^ k / 2 ^ j % 2 ≡ 0
pow-other k j ne =
    ⊎_elim (λ l. ap (λ (n : ℕ). n % 2) (div-eq_of_lt (pow-lt l)))
    (λ l.
    let e : k ≡ suc (k - j - 1) + j = omega arith in
    subst (λ (n : ℕ). 2 ^ n / 2 ^ j % 2 ≡ 0) (sym e) (pow-above j (k - j - 1)))
    (lt-or-ge k j)

bit-set : (b k : ℕ) → bit_or b (2 ^ k) / 2 ^ k % 2 ≡ 1
bit-set b k =
    or-bit b (2 ^ k) k ∙ ap (λ (n : ℕ). bit_or (b / 2 ^ k % 2) (n % 2)) (div_self (pow_pos k)) ∙ or-one (b / 2 ^ k % 2) (omega arith)

bit_kept : (b k j : ℕ) → (j ≡ k → ⊥) → bit_or b (2 ^ k) / 2 ^ j % 2 ≡ b / 2 ^ j % 2
bit_kept b k j ne =
    or-bit b (2 ^ k) j ∙ ap (λ (n : ℕ). bit_or (b / 2 ^ j % 2) n) (pow-other k j ne) ∙ or_zero_r (b / 2 ^ j % 2)

-- the code's shift of 1 in a byte
pub one_shl : (k : ℕ) → k < 8 → 1 * 2 ^ k % 256 ≡ 2 ^ k
one_shl k h = shl_exact 1 k 8 (lit< tt) (omega arith) ∙ one-mul (2 ^ k)

-- the byte with its bit set
abbrev pub marked : List ℕ → ℕ → ℕ
marked map n = bit_or (get_or map (n / 8) 0) (2 ^ (7 - n % 8))

-- the bit that is set
pub set_here : (map : List ℕ) (n : ℕ) → n / 8 < length map → bit_at (set_bit map n) n ≡ true
unfolding bit_at set_bit
set_here map n h = simp (get_or-set_same map (n / 8) (marked map n) 0 h, bit-set)

-- every other bit
pub set_other : (map : List ℕ) (n m : ℕ) → (m ≡ n → ⊥) → bit_at (set_bit map n) m ≡ bit_at map m
unfolding bit_at set_bit
set_other map n m ne = go (eqb (m / 8) (n / 8)) refl (lt-or-ge (n / 8) (length map))
  where
    same : m / 8 ≡ n / 8 → n / 8 < length map → bit_at (set_bit map n) m ≡ bit_at map m
    same p h =
        simp (p, get_or-set_same map (n / 8) (marked map n) 0 h, bit_kept (get_or map (n / 8) 0) (7 - n % 8) (7 - m % 8) (λ q. ne (omega arith)))

    out : length map ≤ n / 8 → bit_at (set_bit map n) m ≡ bit_at map m
    out h = simp (set_out map (n / 8) (marked map n) h)

    go : (b : Bool) → eqb (m / 8) (n / 8) ≡ b → (n / 8 < length map) ⊎ (length map ≤ n / 8) → bit_at (set_bit map n) m ≡ bit_at map m
    go b q (inr h) = out h
    go true q (inl h) = same (eqb-true _ _ q) h
    go false q (inl h) = simp (get_or-set_other map (n / 8) (m / 8) (marked map n) 0 (eqb-false _ _ q))

-- a bit that was 1 stays 1
pub set_keeps : (map : List ℕ) (n : ℕ) → bit_at map n ≡ true → bit_at (set_bit map n) n ≡ true
unfolding set_bit
set_keeps map n e = go (lt-or-ge (n / 8) (length map))
  where
    go : (n / 8 < length map) ⊎ (length map ≤ n / 8) → bit_at (set_bit map n) n ≡ true
    go (inl h) = set_here map n h
    go (inr h) = rw (set_out map (n / 8) (marked map n) h) e

-- a bit past the map's end is 0
pub bit_past : (map : List ℕ) (n : ℕ) → length map ≤ n / 8 → bit_at map n ≡ false
unfolding bit_at
bit_past map n h = simp (get_or-eq_default map 0 h, zero-div (2 ^ (7 - n % 8)))

-- an or of three numbers, and its last two exchanged
or_digits : (x y z : ℕ) → x < 2 → y < 2 → z < 2 → max (bit_or x y) z ≡ max x (bit_or y z)
or_digits zero zero z a b c = refl
or_digits zero (suc zero) zero a b c = refl
or_digits zero (suc zero) (suc zero) a b c = refl
or_digits (suc zero) zero zero a b c = refl
or_digits (suc zero) zero (suc zero) a b c = refl
or_digits (suc zero) (suc zero) zero a b c = refl
or_digits (suc zero) (suc zero) (suc zero) a b c = refl
or_digits (suc (suc x)) y z a b c = absurd (omega arith)
or_digits zero (suc (suc y)) z a b c = absurd (omega arith)
or_digits (suc zero) (suc (suc y)) z a b c = absurd (omega arith)
or_digits zero (suc zero) (suc (suc z)) a b c = absurd (omega arith)
or_digits (suc zero) zero (suc (suc z)) a b c = absurd (omega arith)
or_digits (suc zero) (suc zero) (suc (suc z)) a b c = absurd (omega arith)

or_assoc : (a b c : ℕ) → bit_or (bit_or a b) c ≡ bit_or a (bit_or b c)
or_assoc a =
    bin_ind (λ (n : ℕ). (b c : ℕ) → bit_or (bit_or n b) c ≡ bit_or n (bit_or b c)) (λ b c. refl)
    (λ n ih b c.
    or_step (bit_or n b) c
    ∙ ap₂ (λ (x y : ℕ). bit_or x (c / 2) * 2 + max y (c % 2)) (or_shr n b 1) (or_mod n b 1)
    ∙ ap₂ (λ (x y : ℕ). x * 2 + y) (ih (b / 2) (c / 2)) (or_digits (n % 2) (b % 2) (c % 2) (omega arith) (omega arith) (omega arith))
    ∙ ap₂ (λ (x y : ℕ). bit_or (n / 2) x * 2 + max (n % 2) y) (sym (or_shr b c 1)) (sym (or_mod b c 1))
    ∙ sym (or_step n (bit_or b c))) a

or_turn : (a b c : ℕ) → bit_or (bit_or a b) c ≡ bit_or (bit_or a c) b
or_turn a b c = or_assoc a b c ∙ ap (bit_or a) (or_comm b c) ∙ sym (or_assoc a c b)

-- two bits set in either order
pub set-turn : (map : List ℕ) (n m : ℕ) → set_bit (set_bit map n) m ≡ set_bit (set_bit map m) n
unfolding set_bit
set-turn map n m = go (eqb (n / 8) (m / 8)) refl (lt-or-ge (n / 8) (length map))
  where
    -- the bits' values, and what stands in a byte
    x : ℕ
    x = 2 ^ (7 - n % 8)

    y : ℕ
    y = 2 ^ (7 - m % 8)

    byte : ℕ → ℕ
    byte i = get_or map i 0

    go : (b : Bool) → eqb (n / 8) (m / 8) ≡ b → (n / 8 < length map) ⊎ (length map ≤ n / 8)
        → set (set map (n / 8) (bit_or (byte (n / 8)) x)) (m / 8) (bit_or (get_or (set map (n / 8) (bit_or (byte (n / 8)) x)) (m / 8) 0) y)
        ≡ set (set map (m / 8) (bit_or (byte (m / 8)) y)) (n / 8) (bit_or (get_or (set map (m / 8) (bit_or (byte (m / 8)) y)) (n / 8) 0) x)
    go true e (inl l) =
        let q : n / 8 ≡ m / 8 = eqb-true (n / 8) (m / 8) e in
        rw (
          ← q,
          get_or-set_same map (n / 8) (bit_or (byte (n / 8)) x) 0 l,
          get_or-set_same map (n / 8) (bit_or (byte (n / 8)) y) 0 l,
          set-set map (n / 8) (bit_or (byte (n / 8)) x) (bit_or (bit_or (byte (n / 8)) x) y),
          set-set map (n / 8) (bit_or (byte (n / 8)) y) (bit_or (bit_or (byte (n / 8)) y) x),
        )
        (ap (set map (n / 8)) (or_turn (byte (n / 8)) x y))
    go true e (inr l) =
        let q : n / 8 ≡ m / 8 = eqb-true (n / 8) (m / 8) e in
        rw (← q, set_out map (n / 8) (bit_or (byte (n / 8)) x) l, set_out map (n / 8) (bit_or (byte (n / 8)) y) l)
        (sym (set_out map (n / 8) (bit_or (byte (n / 8)) x) l))
    go false e h =
        let ne : n / 8 ≡ m / 8 → ⊥ = eqb-false (n / 8) (m / 8) e in
        rw (get_or-set_other map (n / 8) (m / 8) (bit_or (byte (n / 8)) x) 0 (λ q. ne (sym q)), get_or-set_other map (m / 8) (n / 8) (bit_or (byte (m / 8)) y) 0 ne)
        (set_comm map (n / 8) (m / 8) (bit_or (byte (n / 8)) x) (bit_or (byte (m / 8)) y) ne)

-- the bits of a mask: 0 at its place, 1 at the others
abbrev mask-bit : ℕ → ℕ → Bool
mask-bit k j = eqb ((255 - 2 ^ k) / 2 ^ j % 2) (cond (eqb j k) 0 1)

mask-bits : every 8 (λ k. every 8 (mask-bit k)) ≡ true
unfolding every
mask-bits = refl

mask_is : (k j : ℕ) → k < 8 → j < 8 → (255 - 2 ^ k) / 2 ^ j % 2 ≡ cond (eqb j k) 0 1
mask_is k j a b =
    eqb-true ((255 - 2 ^ k) / 2 ^ j % 2) (cond (eqb j k) 0 1)
    (every-at (mask-bit k) 8 j (every-at (λ i. every 8 (mask-bit i)) 8 k mask-bits a) b)

and-bits : (a b j : ℕ) → bit_and a b / 2 ^ j % 2 ≡ bit_and (a / 2 ^ j % 2) (b / 2 ^ j % 2)
and-bits a b j = ap (λ (n : ℕ). n % 2) (and_shr a b j) ∙ and_mod (a / 2 ^ j) (b / 2 ^ j) 1

and_one : (x : ℕ) → x < 2 → bit_and x 1 ≡ x
and_one zero h = refl
and_one (suc zero) h = refl
and_one (suc (suc x)) h = absurd (omega arith)

bit-cleared : (b k : ℕ) → k < 8 → bit_and b (255 - 2 ^ k) / 2 ^ k % 2 ≡ 0
bit-cleared b k h =
    and-bits b (255 - 2 ^ k) k ∙ ap (bit_and (b / 2 ^ k % 2)) (mask_is k k h h ∙ ap (λ (c : Bool). cond c 0 1) (eq-eqb k k refl)) ∙ and_zero_r (b / 2 ^ k % 2)

bit-left : (b k j : ℕ) → k < 8 → j < 8 → (j ≡ k → ⊥) → bit_and b (255 - 2 ^ k) / 2 ^ j % 2 ≡ b / 2 ^ j % 2
bit-left b k j h l ne =
    and-bits b (255 - 2 ^ k) j
    ∙ ap (bit_and (b / 2 ^ j % 2)) (mask_is k j h l ∙ go (eqb j k) refl) ∙ and_one (b / 2 ^ j % 2) (omega arith)
  where
    go : (c : Bool) → eqb j k ≡ c → ◌≡◌ {A = ℕ} (cond c 0 1) 1
    go true e = absurd (ne (eqb-true j k e))
    go false e = refl

-- the byte with its bit cleared
abbrev pub cleared : List ℕ → ℕ → ℕ
cleared map n = bit_and (get_or map (n / 8) 0) (255 - 2 ^ (7 - n % 8))

-- the bit that is cleared
pub clear-here : (map : List ℕ) (n : ℕ) → bit_at (clear_bit map n) n ≡ false
unfolding bit_at clear_bit
clear-here map n = go (lt-or-ge (n / 8) (length map))
  where
    go : (n / 8 < length map) ⊎ (length map ≤ n / 8) → bit_at (clear_bit map n) n ≡ false
    go (inl h) = simp (get_or-set_same map (n / 8) (cleared map n) 0 h, bit-cleared (get_or map (n / 8) 0) (7 - n % 8) (omega arith))
    go (inr h) = rw (set_out map (n / 8) (cleared map n) h) (simp (get_or-eq_default map 0 h, zero-div (2 ^ (7 - n % 8))))

-- every other bit
pub clear-other : (map : List ℕ) (n m : ℕ) → (m ≡ n → ⊥) → bit_at (clear_bit map n) m ≡ bit_at map m
unfolding bit_at clear_bit
clear-other map n m ne = go (eqb (m / 8) (n / 8)) refl (lt-or-ge (n / 8) (length map))
  where
    same : m / 8 ≡ n / 8 → n / 8 < length map → bit_at (clear_bit map n) m ≡ bit_at map m
    same p h =
        simp (
          p,
          get_or-set_same map (n / 8) (cleared map n) 0 h,
          bit-left (get_or map (n / 8) 0) (7 - n % 8) (7 - m % 8) (omega arith) (omega arith) (λ q. ne (omega arith)),
        )

    out : length map ≤ n / 8 → bit_at (clear_bit map n) m ≡ bit_at map m
    out h = simp (set_out map (n / 8) (cleared map n) h)

    go : (b : Bool) → eqb (m / 8) (n / 8) ≡ b → (n / 8 < length map) ⊎ (length map ≤ n / 8) → bit_at (clear_bit map n) m ≡ bit_at map m
    go b q (inr h) = out h
    go true q (inl h) = same (eqb-true _ _ q) h
    go false q (inl h) = simp (get_or-set_other map (n / 8) (m / 8) (cleared map n) 0 (eqb-false _ _ q))

-- a bit that is 1 afterwards was 1
pub clear-before : (map : List ℕ) (n m : ℕ) → bit_at (clear_bit map n) m ≡ true → bit_at map m ≡ true
clear-before map n m t = go (eqb m n) refl
  where
    go : (b : Bool) → eqb m n ≡ b → bit_at map m ≡ true
    go true e = let q : m ≡ n = eqb-true m n e in clash (ap (bit_at (clear_bit map n)) (sym q) ∙ t) (clear-here map n)
    go false e = sym (clear-other map n m (eqb-false m n e)) ∙ t
