-- Laws of the bits of words: two words side by side, the bytes of a map, an and that is zero, seven in a row, a word moved on.
-- Assumes nothing.
use mathlib.Core.Path.{◌≡◌, refl, ◌∙◌, sym, ap}
use mathlib.Core.Bool.{Bool, true, false, not, ◌&&◌, ◌||◌, cond}
use mathlib.Core.Logic.{◌⊎◌, inl, inr}
use mathlib.Core.List.{List}
use Prim.Native.Nat.{ℕ, zero, suc, ◌+◌, ◌-◌, ◌*◌, ◌/◌, ◌%◌, ◌^◌, ◌≤◌, ◌<◌}
use native.Mathlib.Nat.{zero-div, add-zero, add-suc, mul_assoc, div-eq_of_lt}
use native.Mathlib.Omega.{arith}
use lib.Bits.{bit_or, bit_and, or_shr, or_mod, and_shr, and_mod, and_le_l, and_zero_l, and_zero_r, or_lt, or_zero_l, or_zero_r}
use lib.Dec.{eqb, leb}
use lib.ListN.{get_or}
use lib.Pow.{pow_pos, pow-add, shr-shr, shr_lt, field, mod-mod-pow, high, low, shl-shr, pow-lt}
use borrow.Author.Tests.{eqb-true, eq-eqb}
use Rattle.questions.specs.Search.{every}
use Rattle.questions.proofs.Bools.{clash, both, and-fst, and-snd, and_both, same_test, lt-or-ge}
use Rattle.questions.proofs.Search.{every-at, every-all}
use Rattle.calendar.specs.Bits.{byte_bit, bit_at}
use Rattle.calendar_words.specs.DayWords.{day_bit, Shows, bytes_from}

-- a number's lower m bits keep their bits
pub mod-bit : (n m j : ℕ) → j < m → n % 2 ^ m / 2 ^ j % 2 ≡ n / 2 ^ j % 2
mod-bit n m j h =
    let e : m ≡ m - 1 - j + 1 + j = omega arith in
    ap (λ (k : ℕ). n % 2 ^ k / 2 ^ j % 2) e ∙ ap (λ (x : ℕ). x % 2) (field n (m - 1 - j + 1) j) ∙ mod-mod-pow (n / 2 ^ j) (m - 1 - j) 1

-- two numbers side by side, b in the k lower bits
module _ (a b k : ℕ) (l : b < 2 ^ k) where
  -- above its k lower bits, the joined number has the bits of a
  pub high_bit : (j : ℕ) → (a * 2 ^ k + b) / 2 ^ (k + j) ≡ a / 2 ^ j
  high_bit j = sym (shr-shr (a * 2 ^ k + b) k j) ∙ ap (λ (n : ℕ). n / 2 ^ j) (high a k l)

  -- in its k lower bits, the joined number has the bits of b
  pub low_bit : (j : ℕ) → j < k → (a * 2 ^ k + b) / 2 ^ j % 2 ≡ b / 2 ^ j % 2
  low_bit j h = sym (mod-bit (a * 2 ^ k + b) k j h) ∙ ap (λ (n : ℕ). n / 2 ^ j % 2) (low a k l)

bit_is : (b : List ℕ) (s : ℕ) → byte_bit (get_or b (s / 8) 0) (s % 8) ≡ bit_at b s
unfolding bit_at
bit_is b s = refl

-- bit p of bytes, from the highest, is bit p of the map from their place on
byte_step : (b : List ℕ) (at n p : ℕ) → p < 8 * suc n → (p < 8 * n) ⊎ (8 * n ≤ p) → (p < 8 * n → day_bit (8 * n) (bytes_from b at n) p ≡ bit_at b (8 * at + p))
    → day_bit (8 * suc n) (bytes_from b at n * 256 + get_or b (at + n) 0 % 256) p ≡ bit_at b (8 * at + p)
byte_step b at n p h (inl l) ih =
    let e : 8 * suc n - 1 - p ≡ 8 + (8 * n - 1 - p) = omega arith in
    ap (λ (k : ℕ). eqb ((bytes_from b at n * 256 + get_or b (at + n) 0 % 256) / 2 ^ k % 2) 1) e ∙
    ap (λ (m : ℕ). eqb (m % 2) 1) (high_bit (bytes_from b at n) (get_or b (at + n) 0 % 256) 8 (omega arith) (8 * n - 1 - p)) ∙ ih l
byte_step b at n p h (inr l) ih =
    let e : 8 * suc n - 1 - p ≡ 7 - p % 8 = omega arith in
    let q : at + n ≡ (8 * at + p) / 8 = omega arith in
    let r : p % 8 ≡ (8 * at + p) % 8 = omega arith in
    ap (λ (k : ℕ). eqb ((bytes_from b at n * 256 + get_or b (at + n) 0 % 256) / 2 ^ k % 2) 1) e ∙
    ap (λ (m : ℕ). eqb m 1) (low_bit (bytes_from b at n) (get_or b (at + n) 0 % 256) 8 (omega arith) (7 - p % 8) (omega arith) ∙
    mod-bit (get_or b (at + n) 0) 8 (7 - p % 8) (omega arith)) ∙
    ap (λ (m : ℕ). byte_bit (get_or b m 0) (p % 8)) q ∙ ap (λ (m : ℕ). byte_bit (get_or b ((8 * at + p) / 8) 0) m) r ∙ bit_is b (8 * at + p)

-- n bytes of a map, read as one number, have the bits of the map from their place on
pub bytes-show : (b : List ℕ) (at n : ℕ) → Shows b (8 * at) (8 * n) (bytes_from b at n)
unfolding bytes_from
bytes-show b at zero p h = absurd (omega arith)
bytes-show b at (suc n) p h = byte_step b at n p h (lt-or-ge p (8 * n)) (bytes-show b at n p)

-- numbers below 2^w with the same bits are equal
pub same_bits : (w x y : ℕ) → x < 2 ^ w → y < 2 ^ w → ((j : ℕ) → j < w → x / 2 ^ j % 2 ≡ y / 2 ^ j % 2) → x ≡ y
same_bits zero x y a b h = omega arith
same_bits (suc w) x y a b h =
    let half : x / 2 ≡ y / 2 = same_bits w (x / 2) (y / 2) (shr_lt w 1 (more x a)) (shr_lt w 1 (more y b))
    (λ j k. ap (λ (n : ℕ). n % 2) (shr-shr x 1 j) ∙ h (1 + j) (omega arith) ∙ sym (ap (λ (n : ℕ). n % 2) (shr-shr y 1 j))) in
    let odd : x % 2 ≡ y % 2 = ap (λ (n : ℕ). n % 2) (one x) ∙ h 0 (omega arith) ∙ sym (ap (λ (n : ℕ). n % 2) (one y)) in
    omega arith
  where
    more : (n : ℕ) → n < 2 ^ suc w → n < 2 ^ (w + 1)
    more n l = let e : suc w ≡ w + 1 = omega arith in rw (← e) l

    one : (n : ℕ) → n ≡ n / 2 ^ 0
    one n = omega arith

-- a number below 2^w with no bit is 0
pub all-zero : (w y : ℕ) → y < 2 ^ w → ((j : ℕ) → j < w → y / 2 ^ j % 2 ≡ 0) → y ≡ 0
all-zero w y l h = same_bits w y 0 l (pow_pos w) (λ j k. h j k ∙ sym (ap (λ (n : ℕ). n % 2) (zero-div (2 ^ j))))

-- a bit of an and, of an or
pub and-bit : (a b j : ℕ) → bit_and a b / 2 ^ j % 2 ≡ bit_and (a / 2 ^ j % 2) (b / 2 ^ j % 2)
and-bit a b j = ap (λ (n : ℕ). n % 2) (and_shr a b j) ∙ and_mod (a / 2 ^ j) (b / 2 ^ j) 1

or-bit : (a b j : ℕ) → bit_or a b / 2 ^ j % 2 ≡ bit_or (a / 2 ^ j % 2) (b / 2 ^ j % 2)
or-bit a b j = ap (λ (n : ℕ). n % 2) (or_shr a b j) ∙ or_mod (a / 2 ^ j) (b / 2 ^ j) 1

-- a number below 2 is 0 or 1
pub low-two : (x : ℕ) → x < 2 → (x ≡ 0) ⊎ (x ≡ 1)
low-two zero h = inl refl
low-two (suc zero) h = inr refl
low-two (suc (suc x)) h = absurd (omega arith)

or-both : (x y : ℕ) → x < 2 → y < 2 → eqb (bit_or x y) 1 ≡ (eqb x 1 || eqb y 1)
or-both x y a b = go (low-two x a) (low-two y b)
  where
    go : (x ≡ 0) ⊎ (x ≡ 1) → (y ≡ 0) ⊎ (y ≡ 1) → eqb (bit_or x y) 1 ≡ (eqb x 1 || eqb y 1)
    go (inl p) (inl q) = rw (p, q)
    go (inl p) (inr q) = rw (p, q)
    go (inr p) (inl q) = rw (p, q)
    go (inr p) (inr q) = rw (p, q)

-- the or of two words has a day exactly where one of the two has it
pub or-day : (w a b p : ℕ) → day_bit w (bit_or a b) p ≡ (day_bit w a p || day_bit w b p)
or-day w a b p = ap (λ (n : ℕ). eqb n 1) (or-bit a b (w - 1 - p)) ∙ or-both (a / 2 ^ (w - 1 - p) % 2) (b / 2 ^ (w - 1 - p) % 2) (omega arith) (omega arith)

-- a word has no day of another where their and is 0
module _ (w x m : ℕ) (l : x < 2 ^ w) where
  abbrev apart_on : ℕ → Bool
  apart_on p = not (day_bit w x p) || not (day_bit w m p)

  both_one : bit_and x m ≡ 0 → (j : ℕ) → x / 2 ^ j % 2 ≡ 1 → m / 2 ^ j % 2 ≡ 1 → ⊥
  both_one z j p q =
      let a : bit_and (x / 2 ^ j % 2) (m / 2 ^ j % 2) ≡ 0 = sym (and-bit x m j) ∙ ap (λ (n : ℕ). n / 2 ^ j % 2) z ∙ ap (λ (n : ℕ). n % 2) (zero-div (2 ^ j)) in
      let b : bit_and 1 1 ≡ 0 = rw (p, q) at a in
      omega arith

  apart-days : bit_and x m ≡ 0 → (p : ℕ) → apart_on p ≡ true
  apart-days z p = go (day_bit w x p) refl (day_bit w m p) refl
    where
      go : (a : Bool) → day_bit w x p ≡ a → (b : Bool) → day_bit w m p ≡ b → (not a || not b) ≡ true
      go false e b f = refl
      go true e false f = refl
      go true e true f = absurd (both_one z (w - 1 - p) (eqb-true _ _ e) (eqb-true _ _ f))

  no-bit : (j : ℕ) → (not (eqb (x / 2 ^ j % 2) 1) || not (eqb (m / 2 ^ j % 2) 1)) ≡ true → bit_and x m / 2 ^ j % 2 ≡ 0
  no-bit j h = and-bit x m j ∙ go (low-two (x / 2 ^ j % 2) (omega arith)) (low-two (m / 2 ^ j % 2) (omega arith))
    where
      go : (x / 2 ^ j % 2 ≡ 0) ⊎ (x / 2 ^ j % 2 ≡ 1) → (m / 2 ^ j % 2 ≡ 0) ⊎ (m / 2 ^ j % 2 ≡ 1) → bit_and (x / 2 ^ j % 2) (m / 2 ^ j % 2) ≡ 0
      go (inl p) b = ap (λ (n : ℕ). bit_and n (m / 2 ^ j % 2)) p ∙ and_zero_l (m / 2 ^ j % 2)
      go (inr p) (inl q) = ap (λ (n : ℕ). bit_and (x / 2 ^ j % 2) n) q ∙ and_zero_r (x / 2 ^ j % 2)
      go (inr p) (inr q) = clash {b = false} (rw (p, q) at h) refl

  days-apart : every w apart_on ≡ true → bit_and x m ≡ 0
  days-apart h =
      all-zero w (bit_and x m) (omega (arith, and_le_l x m, l))
      (λ j k.
      let e : w - 1 - (w - 1 - j) ≡ j = omega arith in
      no-bit j (rw e at (every-at apart_on w (w - 1 - j) h (omega arith))))

  -- two words have no common bit exactly where on each day one of them or both have none
  pub apart : eqb (bit_and x m) 0 ≡ every w (λ p. not (day_bit w x p) || not (day_bit w m p))
  apart = same_test _ _ (λ z. every-all apart_on w (λ p k. apart-days (eqb-true _ _ z) p)) (λ h. eq-eqb _ _ (days-apart h))

-- a word has no day that another has not where their or is the other
module _ (w x y : ℕ) (l : x < 2 ^ w) (m : y < 2 ^ w) where
  abbrev within_on : ℕ → Bool
  within_on p = not (day_bit w y p) || day_bit w x p

  within-days : bit_or x y ≡ x → (p : ℕ) → within_on p ≡ true
  within-days z p = go (day_bit w x p) (day_bit w y p) (ap (λ (n : ℕ). day_bit w n p) (sym z) ∙ or-day w x y p)
    where
      go : (a b : Bool) → a ≡ (a || b) → (not b || a) ≡ true
      go true true e = refl
      go true false e = refl
      go false true e = e
      go false false e = refl

  or-within : (j : ℕ) → (not (eqb (y / 2 ^ j % 2) 1) || eqb (x / 2 ^ j % 2) 1) ≡ true → bit_or x y / 2 ^ j % 2 ≡ x / 2 ^ j % 2
  or-within j h = or-bit x y j ∙ go (low-two (x / 2 ^ j % 2) (omega arith)) (low-two (y / 2 ^ j % 2) (omega arith))
    where
      go : (x / 2 ^ j % 2 ≡ 0) ⊎ (x / 2 ^ j % 2 ≡ 1) → (y / 2 ^ j % 2 ≡ 0) ⊎ (y / 2 ^ j % 2 ≡ 1) → bit_or (x / 2 ^ j % 2) (y / 2 ^ j % 2) ≡ x / 2 ^ j % 2
      go a (inl q) = ap (λ (n : ℕ). bit_or (x / 2 ^ j % 2) n) q ∙ or_zero_r (x / 2 ^ j % 2)
      go (inl p) (inr q) = clash {b = false} (rw (p, q) at h) refl
      go (inr p) (inr q) = rw (p, q)

  days-within : every w within_on ≡ true → bit_or x y ≡ x
  days-within h =
      same_bits w (bit_or x y) x (or_lt w x y l m) l
      (λ j k.
      let e : w - 1 - (w - 1 - j) ≡ j = omega arith in
      or-within j (rw e at (every-at within_on w (w - 1 - j) h (omega arith))))

  -- the or of two words is the first exactly where each day of the second is a day of the first
  pub within : eqb (bit_or x y) x ≡ every w (λ p. not (day_bit w y p) || day_bit w x p)
  within = same_test _ _ (λ z. every-all within_on w (λ p k. within-days (eqb-true _ _ z) p)) (λ h. eq-eqb _ _ (days-within h))

-- a word moved down, and in a wider word
pub shr-day : (w c x p : ℕ) → p < w → day_bit w (x / 2 ^ c) p ≡ day_bit (w + c) x p
shr-day w c x p h =
    let e : c + (w - 1 - p) ≡ w + c - 1 - p = omega arith in
    ap (λ (n : ℕ). eqb (n % 2) 1) (shr-shr x c (w - 1 - p)) ∙ ap (λ (n : ℕ). eqb (x / 2 ^ n % 2) 1) e

-- a word of w days, taken as the last days of a longer word, keeps its days
pub wider-day : (v w x p : ℕ) → p < w → day_bit (v + w) x (v + p) ≡ day_bit w x p
wider-day v w x p h =
    let e : v + w - 1 - (v + p) ≡ w - 1 - p = omega arith in
    ap (λ (n : ℕ). eqb (x / 2 ^ n % 2) 1) e

-- seven days in a row, by halves
pair : (x k j : ℕ) → x / 2 ^ j % 2 ≡ 1 → x / 2 ^ (j + k) % 2 ≡ 1 → bit_and x (x / 2 ^ k) / 2 ^ j % 2 ≡ 1
pair x k j p q =
    let e : k + j ≡ j + k = omega arith in
    let s : x / 2 ^ k / 2 ^ j % 2 ≡ 1 = ap (λ (n : ℕ). n % 2) (shr-shr x k j) ∙ ap (λ (n : ℕ). x / 2 ^ n % 2) e ∙ q in
    and-bit x (x / 2 ^ k) j ∙ ap (λ (n : ℕ). bit_and n (x / 2 ^ k / 2 ^ j % 2)) p ∙ ap (λ (n : ℕ). bit_and 1 n) s

-- a bit is kept where the next higher bit is set too
abbrev pub twos : ℕ → ℕ
twos x = bit_and x (x / 2 ^ 1)

-- a bit is kept where it and the next three higher bits are set
abbrev pub fours : ℕ → ℕ
fours x = bit_and (twos x) (twos x / 2 ^ 2)

-- seven bits from bit j up leave a bit
seven-bits : (x j : ℕ) → bit_and (fours x) (fours x / 2 ^ 3) ≡ 0 → ((i : ℕ) → i < 7 → x / 2 ^ (j + i) % 2 ≡ 1) → ⊥
seven-bits x j z h =
    let one : 0 / 2 ^ j % 2 ≡ 1 = ap (λ (n : ℕ). n / 2 ^ j % 2) (sym z) ∙
    pair (fours x) 3 j (ap (λ (n : ℕ). fours x / 2 ^ n % 2) (sym (add-zero j)) ∙ f 0 (omega arith)) (f 3 (omega arith)) in
    let no : ◌≡◌ {A = ℕ} 0 1 = sym (ap (λ (n : ℕ). n % 2) (zero-div (2 ^ j))) ∙ one in
    omega arith
  where
    t : (m : ℕ) → m < 6 → twos x / 2 ^ (j + m) % 2 ≡ 1
    t m l =
        let e : j + m + 1 ≡ j + (m + 1) = omega arith in
        pair x 1 (j + m) (h m (omega arith)) (ap (λ (n : ℕ). x / 2 ^ n % 2) e ∙ h (m + 1) (omega arith))

    f : (m : ℕ) → m < 4 → fours x / 2 ^ (j + m) % 2 ≡ 1
    f m l =
        let e : j + m + 2 ≡ j + (m + 2) = omega arith in
        pair (twos x) 2 (j + m) (t m (omega arith)) (ap (λ (n : ℕ). twos x / 2 ^ n % 2) e ∙ t (m + 2) (omega arith))

-- where the test by halves leaves no bit, no seven days in a row of a word of 64 have their bit
pub seven-free : (x : ℕ) → bit_and (fours x) (fours x / 2 ^ 3) ≡ 0 → (p : ℕ) → p + 7 ≤ 64 → ((i : ℕ) → i < 7 → day_bit 64 x (p + i) ≡ true) → ⊥
seven-free x z p l h =
    seven-bits x (57 - p) z
    (λ i k.
    let e : 63 - (p + (6 - i)) ≡ 57 - p + i = omega arith in
    ap (λ (n : ℕ). x / 2 ^ n % 2) (sym e) ∙ eqb-true _ _ (h (6 - i) (omega arith)))

-- the code's move: the window's lower 64 − w days, then w days
module _ (x days w : ℕ) (b : w < 64) (l : days < 2 ^ w) where
  above : (j : ℕ) → w ≤ j → j < 64 → bit_or (x * 2 ^ w % 2 ^ 64) days / 2 ^ j % 2 ≡ x / 2 ^ (j - w) % 2
  above j h k =
      let e : j ≡ w + (j - w) = omega arith in
      let z : days / 2 ^ j ≡ 0 = div-eq_of_lt (small (lt-or-ge w j)) in
      let s : x * 2 ^ w / 2 ^ j ≡ x / 2 ^ (j - w) =
      ap (λ (n : ℕ). x * 2 ^ w / 2 ^ n) e ∙ sym (shr-shr (x * 2 ^ w) w (j - w)) ∙ ap (λ (n : ℕ). n / 2 ^ (j - w)) (shl-shr x w) in
      or-bit (x * 2 ^ w % 2 ^ 64) days j ∙ ap (λ (n : ℕ). bit_or (x * 2 ^ w % 2 ^ 64 / 2 ^ j % 2) (n % 2)) z ∙ or_zero_r (x * 2 ^ w % 2 ^ 64 / 2 ^ j % 2) ∙
      mod-bit (x * 2 ^ w) 64 j k ∙ ap (λ (n : ℕ). n % 2) s
    where
      small : (w < j) ⊎ (j ≤ w) → days < 2 ^ j
      small (inl q) = omega (arith, l, pow-lt q)
      small (inr q) = let r : w ≡ j = omega arith in rw (← r) l

  below : (j : ℕ) → j < w → bit_or (x * 2 ^ w % 2 ^ 64) days / 2 ^ j % 2 ≡ days / 2 ^ j % 2
  below j h =
      let z : x * 2 ^ w % 2 ^ 64 / 2 ^ j % 2 ≡ 0 =
      mod-bit (x * 2 ^ w) 64 j (omega arith) ∙ sym (mod-bit (x * 2 ^ w) w j h) ∙ ap (λ (n : ℕ). n / 2 ^ j % 2) none ∙
      ap (λ (n : ℕ). n % 2) (zero-div (2 ^ j)) in
      or-bit (x * 2 ^ w % 2 ^ 64) days j ∙ ap (λ (n : ℕ). bit_or n (days / 2 ^ j % 2)) z ∙ or_zero_l (days / 2 ^ j % 2)
    where
      none : x * 2 ^ w % 2 ^ w ≡ 0
      none = ap (λ (n : ℕ). n % 2 ^ w) (sym (add-zero (x * 2 ^ w))) ∙ low x w (omega (arith, l))

  -- after the move, the first 64 − w days of the window are its days from day w on
  pub moved-kept : (p : ℕ) → p < 64 - w → day_bit 64 (bit_or (x * 2 ^ w % 2 ^ 64) days) p ≡ day_bit 64 x (w + p)
  moved-kept p h =
      let e : 64 - 1 - p - w ≡ 64 - 1 - (w + p) = omega arith in
      ap (λ (n : ℕ). eqb n 1) (above (64 - 1 - p) (omega arith) (omega arith)) ∙ ap (λ (n : ℕ). eqb (x / 2 ^ n % 2) 1) e

  -- after the move, the last w days of the window are the new days
  pub moved_new : (p : ℕ) → p < w → day_bit 64 (bit_or (x * 2 ^ w % 2 ^ 64) days) (64 - w + p) ≡ day_bit w days p
  moved_new p h =
      let e : 64 - 1 - (64 - w + p) ≡ w - 1 - p = omega arith in
      ap (λ (n : ℕ). eqb (bit_or (x * 2 ^ w % 2 ^ 64) days / 2 ^ n % 2) 1) e ∙ ap (λ (n : ℕ). eqb n 1) (below (w - 1 - p) (omega arith))

-- bytes side by side
bytes-more : (a p b c : ℕ) → (a * p + b) * 256 + c ≡ a * (p * 256) + (b * 256 + c)
bytes-more a p b c = let e : a * (p * 256) ≡ a * p * 256 = sym (mul_assoc a p 256) in omega arith

-- m + n bytes as one number are the first m bytes followed by the next n
pub bytes-join : (b : List ℕ) (at m n : ℕ) → bytes_from b at (m + n) ≡ bytes_from b at m * 2 ^ (8 * n) + bytes_from b (at + m) n
unfolding bytes_from
bytes-join b at m zero = ap (bytes_from b at) (add-zero m) ∙ omega arith
bytes-join b at m (suc n) =
    let e : 8 * suc n ≡ 8 * n + 8 = omega arith in
    let q : at + (m + n) ≡ at + m + n = omega arith in
    ap (bytes_from b at) (add-suc m n) ∙
    ap (λ (x : ℕ). x * 256 + get_or b (at + (m + n)) 0 % 256) (bytes-join b at m n) ∙
    ap (λ (i : ℕ). (bytes_from b at m * 2 ^ (8 * n) + bytes_from b (at + m) n) * 256 + get_or b i 0 % 256) q ∙
    bytes-more (bytes_from b at m) (2 ^ (8 * n)) (bytes_from b (at + m) n) (get_or b (at + m + n) 0 % 256) ∙
    sym (ap (λ (x : ℕ). bytes_from b at m * x + (bytes_from b (at + m) n * 256 + get_or b (at + m + n) 0 % 256)) (ap (λ (x : ℕ). 2 ^ x) e ∙ pow-add 2 (8 * n) 8))

-- one byte as a number is the byte at its place, modulo 256
pub one_byte : (b : List ℕ) (at : ℕ) → bytes_from b at 1 ≡ get_or b at 0 % 256
unfolding bytes_from
one_byte b at = let e : 0 * 256 + get_or b (at + 0) 0 % 256 ≡ get_or b (at + 0) 0 % 256 = omega arith in e ∙ ap (λ (i : ℕ). get_or b i 0 % 256) (add-zero at)

-- tests that agree below n
pub every-same : (f g : ℕ → Bool) (n : ℕ) → ((k : ℕ) → k < n → f k ≡ g k) → every n f ≡ every n g
every-same f g n h =
    same_test _ _ (λ e. every-all g n (λ k l. sym (h k l) ∙ every-at f n k e l)) (λ e. every-all f n (λ k l. h k l ∙ every-at g n k e l))

-- a word of a map has no day of a mask of the days that may not be closed
pub word-clean : (map : List ℕ) (may : ℕ → Bool) (base n w x m : ℕ) → x < 2 ^ w → Shows map (base + n) w x
    → ((p : ℕ) → p < w → day_bit w m p ≡ not (may (n + p))) → eqb (bit_and x m) 0 ≡ every w (λ p. not (bit_at map (base + (n + p))) || may (n + p))
word-clean map may base n w x m l s b =
    apart w x m l ∙
    every-same (λ p. not (day_bit w x p) || not (day_bit w m p)) (λ p. not (bit_at map (base + (n + p))) || may (n + p)) w
    (λ p h.
    let e : base + n + p ≡ base + (n + p) = omega arith in
    rw (s p h ∙ ap (bit_at map) e, b p h) (ap (λ (c : Bool). not (bit_at map (base + (n + p))) || c) (twice (may (n + p)))))
  where
    twice : (c : Bool) → not (not c) ≡ c
    twice true = refl
    twice false = refl

-- two tests as one
pub both-every : (f g : ℕ → Bool) (n : ℕ) → (every n f && every n g) ≡ every n (λ k. f k && g k)
both-every f g n =
    same_test _ _
    (λ e. let (a, b) = both (every n f) (every n g) e in every-all (λ k. f k && g k) n (λ k l. and_both (every-at f n k a l) (every-at g n k b l)))
    (λ e. and_both (every-all f n (λ k l. and-fst (f k) (g k) (every-at (λ k. f k && g k) n k e l)))
    (every-all g n (λ k l. and-snd (f k) (g k) (every-at (λ k. f k && g k) n k e l))))

-- every bit of a mask of ones
pub all-days : every 64 (day_bit 64 0xFFFFFFFFFFFFFFFF) ≡ true
unfolding every
all-days = refl

-- the last days of a word of 32
pub last-days : (every 32 (λ p. cond (leb 30 p) (day_bit 32 3 p) (not (day_bit 32 3 p))) ≡ true)
    × (every 32 (λ p. cond (leb 29 p) (day_bit 32 7 p) (not (day_bit 32 7 p))) ≡ true)
unfolding every
last-days = (refl, refl)
