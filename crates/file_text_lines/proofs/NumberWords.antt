-- A number, digit by digit, and a size, by its point.
-- Assumes nothing.
use mathlib.Core.Path.{◌≡◌, refl}
use mathlib.Core.Bool.{Bool, true, false, ◌&&◌, cond, and-false}
use mathlib.Core.List.{List, [], ◌∷◌}
use Prim.Native.Nat.{ℕ, ◌+◌, ◌-◌, ◌*◌, ◌≤◌, ◌<◌}
use native.Mathlib.Numerals.{add-one}
use native.Mathlib.Omega.{arith}
use lib.Dec.{eqb, leb}
use lib.ListN.{length, get_or, take, drop, length-drop}
use lib.Seq.{drop-cons, drop-length, take_all}
use borrow.Author.Tests.{le-leb, lt-leb, leb-true, eq-eqb, ne_eqb}
use Rattle.questions.proofs.Bools.{both}
use Rattle.product.specs.Fields.{digit}
use Rattle.session_lines.specs.CommandLines.{digit_value}
use Rattle.file_text_lines.specs.declared.NumberRead.{NumberRead}
use Rattle.file_text_lines.specs.Entries.{no_number, number_from, word_number, pointed, shares_read, part_read}

module _ (word : List ℕ) (most : ℕ) where
  -- a word of no bytes is no number
  pub number-none : length word ≡ 0 → no_number ≡ word_number word most
  unfolding word_number
  number-none e = rw (eq-eqb (length word) 0 e) refl

  -- the number of a word of some bytes is read from its first digit on
  pub number-some : (length word ≡ 0 → ⊥) → number_from most 0 word ≡ word_number word most
  unfolding word_number
  number-some e = rw (ne_eqb (length word) 0 e) refl

  -- one byte more
  module _ (value i : ℕ) (h : i < length word) where
    -- a byte that is no digit makes the word no number
    pub no_digit : digit (get_or word i 0) ≡ false → number_from most value (drop i word) ≡ no_number
    unfolding number_from
    no_digit e = rw (drop-cons word i 0 h, e) refl

    -- a digit with which the number passes the most makes the word no number
    pub too-great : most < 10 * value + digit_value (get_or word i 0) → number_from most value (drop i word) ≡ no_number
    unfolding number_from
    too-great l = rw (drop-cons word i 0 h, lt-leb (10 * value + digit_value (get_or word i 0)) most l, and-false (digit (get_or word i 0))) refl

    -- a digit with which the number does not pass the most is read, and the number goes on with the next byte
    pub one-digit : digit (get_or word i 0) ≡ true → 10 * value + digit_value (get_or word i 0) ≤ most
        → number_from most value (drop i word) ≡ number_from most (10 * value + digit_value (get_or word i 0)) (drop (i + 1) word)
    unfolding number_from
    one-digit e l = rw (drop-cons word i 0 h, e, le-leb (10 * value + digit_value (get_or word i 0)) most l, add-one i) refl

  -- the word's end
  pub number-whole : (value i : ℕ) → i ≤ length word → length word ≤ i → number_from most value (drop i word) ≡ record { there = true; value = value }
  unfolding number_from
  number-whole value i h l =
      let e : i ≡ length word = omega arith in
      rw (e, drop-length word) refl

-- no number passes the most
number-most : (most value : ℕ) (word : List ℕ) → value ≤ most → (number_from most value word).value ≤ most
unfolding number_from
number-most most value [] h = h
number-most most value (byte ∷ rest) h = go (digit byte && leb next most) refl (number-most most next rest)
  where
    next : ℕ
    next = 10 * value + digit_value byte

    go : (b : Bool) → (digit byte && leb next most) ≡ b → (next ≤ most → (number_from most next rest).value ≤ most)
        → (cond b (number_from most next rest) no_number).value ≤ most
    go true e more = more (leb-true next most (both (digit byte) (leb next most) e).1)
    go false e more = omega arith

-- the number of a word is at most the most that it is read with
pub at_most : (word : List ℕ) (most : ℕ) (r : NumberRead) → r ≡ word_number word most → r.value ≤ most
unfolding word_number
at_most word most r e = rw e (go (eqb (length word) 0))
  where
    go : (b : Bool) → (cond b no_number (number_from most 0 word)).value ≤ most
    go true = omega arith
    go false = number-most most 0 word (omega arith)

-- a size, by its point
module _ (word : List ℕ) where
  -- a word of fewer than five bytes has no point before its last four bytes
  pub short-word : length word < 5 → false ≡ pointed word
  unfolding pointed
  short-word h = rw (lt-leb 5 (length word) h) refl

  -- a word of at least five bytes has the point of a size exactly where its fifth byte from the end is one
  pub long-word : 5 ≤ length word → eqb (get_or word (length word - 5) 0) 46 ≡ pointed word
  unfolding pointed
  long-word h = rw (le-leb 5 (length word) h) refl

  -- a size with a point has at least five bytes
  pub pointed-long : pointed word ≡ true → 5 ≤ length word
  unfolding pointed
  pointed-long e = leb-true 5 (length word) (both (leb 5 (length word)) (eqb (get_or word (length word - 5) 0) 46) e).0

  -- a size with a point has at least the four bytes that stand after it
  pub pointed-more : pointed word ≡ true → 4 ≤ length word
  pointed-more e = omega (arith, pointed-long e)

  -- the shares of a size with a point are the number before the point
  pub shares-pointed : pointed word ≡ true → word_number (take (length word - 5) word) 65535 ≡ shares_read word
  unfolding shares_read
  shares-pointed e = rw e refl

  -- the shares of a size without a point are the number that the word is
  pub shares_whole : pointed word ≡ false → word_number word 65535 ≡ shares_read word
  unfolding shares_read
  shares_whole e = rw e refl

  -- the last four bytes, as a part of the word from a place up to its end
  pub part-pointed : pointed word ≡ true → word_number (take (length word - (length word - 4)) (drop (length word - 4) word)) 9999 ≡ part_read word
  unfolding part_read
  part-pointed e =
      let last = drop (length word - 4) word in
      rw (e, take_all (length word - (length word - 4)) last (omega (arith, length-drop (length word - 4) word))) refl

  -- a size without a point has 0 ten-thousandths of a share
  pub part-whole : pointed word ≡ false → record { there = true; value = 0 } ≡ part_read word
  unfolding part_read
  part-whole e = rw e refl

  -- the shares of a size are at most 65,535
  pub shares-most : (r : NumberRead) → r ≡ shares_read word → r.value ≤ 65535
  unfolding shares_read
  shares-most r e = at_most (cond (pointed word) (take (length word - 5) word) word) 65535 r e

  -- the ten-thousandths of a size are at most 9,999
  pub part-most : (r : NumberRead) → r ≡ part_read word → r.value ≤ 9999
  unfolding part_read
  part-most r e = rw e (go (pointed word))
    where
      go : (b : Bool) → (cond b (word_number (drop (length word - 4) word) 9999) (record { there = true; value = 0 })).value ≤ 9999
      go true = at_most (drop (length word - 4) word) 9999 (word_number (drop (length word - 4) word) 9999) refl
      go false = omega arith
