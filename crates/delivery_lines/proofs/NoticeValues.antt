-- A number of any length digit by digit, as the code holds it: once it passes 1,000,000,000 no further digit brings it back.
-- Assumes nothing.
use mathlib.Core.Path.{◌≡◌, refl, ◌∙◌, sym, ap}
use mathlib.Core.Bool.{Bool, true, false, ◌&&◌, cond, and-false}
use mathlib.Core.List.{List, [], ◌∷◌}
use mathlib.Core.Logic.{◌⊎◌, inl, inr}
use Prim.Native.Nat.{ℕ, ◌+◌, ◌-◌, ◌*◌, ◌≤◌, ◌<◌}
use native.Mathlib.Omega.{arith}
use native.Mathlib.Numerals.{add-one}
use lib.Dec.{leb}
use lib.ListN.{length, get_or, take, drop}
use lib.Seq.{drop-cons, drop-length}
use borrow.Author.Tests.{le-leb, lt-leb}
use Rattle.questions.proofs.Bools.{both, lt-or-ge}
use Rattle.product.specs.Fields.{digit}
use Rattle.session_lines.specs.CommandLines.{digit_value}
use Rattle.file_text_lines.specs.declared.NumberRead.{NumberRead}
use Rattle.file_text_lines.specs.Entries.{no_number, pointed, part_read}
use Rattle.delivery_lines.specs.NoticeLines.{all_digits, is_number, value_from, value_of, whole_word, is_price, price_of, held, number_held, price_held}

-- a number of at most 1000000000 is held as it is
pub held_small : (n : ℕ) → n ≤ 1000000000 → n ≡ held n
unfolding held
held_small n h = rw (le-leb n 1000000000 h) refl

-- a number above 1000000000 is held as 1000000000
pub held-large : (n : ℕ) → 1000000000 < n → 1000000000 ≡ held n
unfolding held
held-large n h = rw (lt-leb n 1000000000 h) refl

-- a held number is at most 1000000000
pub held-most : (n : ℕ) → held n ≤ 1000000000
held-most n = go (lt-or-ge 1000000000 n)
  where
    go : (1000000000 < n) ⊎ (n ≤ 1000000000) → held n ≤ 1000000000
    go (inl h) = omega (arith, held-large n h)
    go (inr h) = omega (arith, held_small n h)

-- a number of more digits is no smaller
value-least : (value : ℕ) (word : List ℕ) → value ≤ value_from value word
unfolding value_from
value-least value [] = omega arith
value-least value (byte ∷ rest) = omega (arith, value-least (10 * value + digit_value byte) rest)

-- so what is held of the digits so far is enough
pub held-from : (value : ℕ) (word : List ℕ) → held (value_from (held value) word) ≡ held (value_from value word)
held-from value word = go (lt-or-ge 1000000000 value)
  where
    big : 1000000000 < value → (n : ℕ) → 1000000000 ≤ n → 1000000000 ≡ held n
    big h n l = at (lt-or-ge 1000000000 n)
      where
        at : (1000000000 < n) ⊎ (n ≤ 1000000000) → 1000000000 ≡ held n
        at (inl g) = held-large n g
        at (inr g) = omega (arith, held_small n g)

    go : (1000000000 < value) ⊎ (value ≤ 1000000000) → held (value_from (held value) word) ≡ held (value_from value word)
    go (inl h) =
        let e : 1000000000 ≡ held value = held-large value h in
        sym (big h (value_from (held value) word) (omega (arith, value-least (held value) word)))
        ∙ big h (value_from value word) (omega (arith, value-least value word))
    go (inr h) = rw (← held_small value h) refl

module _ (word : List ℕ) where
  -- an empty word is no number
  pub number-none : length word ≡ 0 → no_number ≡ number_held word
  unfolding number_held is_number
  number-none e = rw (lt-leb 1 (length word) (omega arith)) refl

  -- the value of a word is read from 0 on
  pub from_start : held (value_from 0 word) ≡ held (value_of word)
  unfolding value_of
  from_start = refl

  -- one byte more
  module _ (i : ℕ) (h : i < length word) where
    -- a byte that is no digit makes the bytes from it on not all digits
    pub no_digit : digit (get_or word i 0) ≡ false → all_digits (drop i word) ≡ false
    unfolding all_digits
    no_digit e = rw (drop-cons word i 0 h, e) refl

    -- after a digit, the bytes from it on are all digits if those after it are
    pub one-digit : digit (get_or word i 0) ≡ true → all_digits (drop i word) ≡ all_digits (drop (i + 1) word)
    unfolding all_digits
    one-digit e = rw (drop-cons word i 0 h, e, add-one i) refl

    -- a digit's value is added to ten times the value so far
    pub one_value : (value : ℕ) → value_from value (drop i word) ≡ value_from (10 * value + digit_value (get_or word i 0)) (drop (i + 1) word)
    unfolding value_from
    one_value value = rw (drop-cons word i 0 h, add-one i) refl

    -- holding the value after one more digit keeps the held value of the word
    pub held_one : (value next : ℕ) → next ≡ held (10 * value + digit_value (get_or word i 0))
        → held (value_from value (drop i word)) ≡ held (value_of word) → held (value_from next (drop (i + 1) word)) ≡ held (value_of word)
    held_one value next e v =
        rw e (held-from (10 * value + digit_value (get_or word i 0)) (drop (i + 1) word)) ∙ ap held (sym (one_value value)) ∙ v

  -- a word that is not all digits is no number
  pub number-not : all_digits word ≡ false → no_number ≡ number_held word
  unfolding number_held is_number
  number-not e = rw (e, and-false (leb 1 (length word))) refl

  -- past the last byte all that is left is digits
  pub digits-whole : (i : ℕ) → i ≤ length word → length word ≤ i → all_digits (drop i word) ≡ true
  unfolding all_digits
  digits-whole i h l =
      let e : i ≡ length word = omega arith in
      rw (e, drop-length word) refl

  -- past the last byte the value stays
  pub value-whole : (i value : ℕ) → i ≤ length word → length word ≤ i → value_from value (drop i word) ≡ value
  unfolding value_from
  value-whole i value h l =
      let e : i ≡ length word = omega arith in
      rw (e, drop-length word) refl

  -- a word of one or more digits is a number, with its held value
  pub number_is : (value : ℕ) → (length word ≡ 0 → ⊥) → all_digits word ≡ true → value ≡ held (value_of word)
      → record { there = true; value = value } ≡ number_held word
  unfolding number_held is_number
  number_is value n d e = rw (le-leb 1 (length word) (omega arith), d, ← e) refl

-- a price by its point
module _ (word : List ℕ) where
  -- the whole part of a word with a point is the word without its last five bytes
  pub whole-pointed : pointed word ≡ true → take (length word - 5) word ≡ whole_word word
  unfolding whole_word
  whole-pointed e = rw e refl

  -- the whole part of a word without a point is the word
  pub whole-bare : pointed word ≡ false → word ≡ whole_word word
  unfolding whole_word
  whole-bare e = rw e refl

-- a number is read exactly where the word is a number
pub number-there : (word : List ℕ) (w : NumberRead) → w ≡ number_held word → w.there ≡ is_number word
unfolding number_held
number-there word w e = rw e (go (is_number word))
  where
    go : (b : Bool) → (cond b (record { there = true; value = held (value_of word) }) no_number).there ≡ b
    go true = refl
    go false = refl

-- the value read of a number is its held value
pub number-value : (word : List ℕ) (w : NumberRead) → w ≡ number_held word → w.there ≡ true → w.value ≡ held (value_of word)
unfolding number_held
number-value word w e t = rw e (rw (sym (number-there word w e) ∙ t) refl)

-- a price of 100,000 and more is too large, whatever stands after its point
large-price : (n w part : ℕ) → w ≡ held n → 99999 < w → 1000000000 ≡ held (10000 * n + part)
large-price n w part e h = go (lt-or-ge 1000000000 n)
  where
    at : 1000000000 ≤ 10000 * n + part → (1000000000 < 10000 * n + part) ⊎ (10000 * n + part ≤ 1000000000) → 1000000000 ≡ held (10000 * n + part)
    at l (inl g) = held-large (10000 * n + part) g
    at l (inr g) = let z : 10000 * n + part ≡ 1000000000 = omega arith in z-held z
      where
        z-held : 10000 * n + part ≡ 1000000000 → 1000000000 ≡ held (10000 * n + part)
        z-held z = sym z ∙ held_small (10000 * n + part) g

    go : (1000000000 < n) ⊎ (n ≤ 1000000000) → 1000000000 ≡ held (10000 * n + part)
    go (inl g) = held-large (10000 * n + part) (omega arith)
    go (inr g) = at (omega (arith, held_small n g)) (lt-or-ge 1000000000 (10000 * n + part))

small-price : (n w part : ℕ) → w ≡ held n → w ≤ 99999 → part ≤ 9999 → 10000 * w + part ≡ held (10000 * n + part)
small-price n w part e h l = go (lt-or-ge 1000000000 n)
  where
    go : (1000000000 < n) ⊎ (n ≤ 1000000000) → 10000 * w + part ≡ held (10000 * n + part)
    go (inl g) = absurd (omega (arith, held-large n g))
    go (inr g) =
        let z : w ≡ n = omega (arith, held_small n g) in
        rw z (held_small (10000 * n + part) (omega arith))

module _ (word : List ℕ) (w p : NumberRead) (e : w ≡ number_held (whole_word word)) (g : p ≡ part_read word) where
  -- a word whose whole part or decimal part is no number is no price
  pub price-none : (w.there && p.there) ≡ false → no_number ≡ price_held word
  unfolding price_held is_price
  price-none t = rw (← number-there (whole_word word) w e, ← g, t) refl

  module _ (t : (w.there && p.there) ≡ true) where
    price-there : is_price word ≡ true
    unfolding is_price
    price-there = rw (← number-there (whole_word word) w e, ← g) t

    whole-value : w.value ≡ held (value_of (whole_word word))
    whole-value = number-value (whole_word word) w e (both w.there p.there t).0

    -- a price with a whole part above 99999 is held as 1000000000
    pub price-large : 99999 < w.value → record { there = true; value = 1000000000 } ≡ price_held word
    unfolding price_held price_of
    price-large h = rw (price-there, ← large-price (value_of (whole_word word)) w.value (part_read word).value whole-value h) refl

    -- a price with a whole part of at most 99999 is held in ten-thousandths
    pub price-small : w.value ≤ 99999 → p.value ≤ 9999 → record { there = true; value = 10000 * w.value + p.value } ≡ price_held word
    unfolding price_held price_of
    price-small h l =
        rw (price-there, ← g, ← small-price (value_of (whole_word word)) w.value p.value whole-value h l) refl

-- a price is read exactly where the word is a price
pub priced : (word : List ℕ) (w : NumberRead) → w ≡ price_held word → w.there ≡ is_price word
unfolding price_held
priced word w e = rw e (go (is_price word))
  where
    go : (b : Bool) → (cond b (record { there = true; value = held (price_of word) }) no_number).there ≡ b
    go true = refl
    go false = refl

-- the value read of a price is its held value
pub price-value : (word : List ℕ) (w : NumberRead) → w ≡ price_held word → w.there ≡ true → w.value ≡ held (price_of word)
unfolding price_held
price-value word w e t = rw e (rw (sym (priced word w e) ∙ t) refl)
