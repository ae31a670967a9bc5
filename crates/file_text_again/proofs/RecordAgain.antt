-- The line of a right record, read again, is the record: its eight words are those that were printed, and each is read back.
-- Assumes nothing.
use mathlib.Core.Path.{◌≡◌, refl, ◌∙◌}
use mathlib.Core.List.{List, [], ◌∷◌, ◌++◌, append-nil, append_assoc}
use mathlib.Core.Bool.{Bool, true, false, ◌&&◌, and-false}
use mathlib.Core.Logic.{◌⊎◌, inl, inr}
use Prim.Native.Nat.{ℕ, zero, suc, ◌+◌, ◌-◌, ◌*◌, ◌/◌, ◌%◌, ◌≤◌, ◌<◌}
use native.Mathlib.Omega.{arith}
use lib.Dec.{eqb, leb}
use lib.ListN.{length, get_or, take, drop, length-append}
use lib.Seq.{take_at, drop_at, get_or-append_seam}
use borrow.Author.Tests.{leb-true, le-leb, lt-leb, eq-eqb, ne_eqb}
use Rattle.questions.proofs.Bools.{both, and-fst, and-snd, and_both, lt-or-ge}
use Rattle.product.specs.Fields.{letter, digit}
use Rattle.session_text.specs.TermsText.{last_digit, in_two_digits, in_four_digits, decimal}
use Rattle.session_text.proofs.TermsTexts.{decimal-1, decimal-2, decimal-3, decimal-4, decimal-5}
use Rattle.file_text_print.specs.Contents.{part_text}
use Rattle.file_text_lines.specs.Entries.{number_from, word_number, pointed, shares_read, part_read}
use Rattle.delivery_own.proofs.RowBytes.{all_of, plain, plain-is, all_append, all_more, all_none}
use Rattle.delivery_own.proofs.WordsReadBack.{digit-is, digit-back, number-back, number-plain}

-- ---- bytes of words

-- a letter is a byte of a word
pub letter-plain : (x : ℕ) → letter x ≡ true → plain x ≡ true
letter-plain x e =
    let a : 65 ≤ x = leb-true 65 x (and-fst (leb 65 x) (leb x 90) e) in
    plain-is x (omega arith) (λ q. omega arith)

-- a digit is a byte of a word
pub digit-plain : (x : ℕ) → digit x ≡ true → plain x ≡ true
digit-plain x e =
    let a : 48 ≤ x = leb-true 48 x (and-fst (leb 48 x) (leb x 57) e) in
    let b : x ≤ 57 = leb-true x 57 (and-snd (leb 48 x) (leb x 57) e) in
    plain-is x (omega arith) (λ q. omega arith)

-- where a test holds of all numbers of a list, it holds of the one in each place
pub at_all : (test : ℕ → Bool) (xs : List ℕ) (i : ℕ) → all_of test xs ≡ true → i < length xs → test (get_or xs i 0) ≡ true
unfolding all_of
at_all test [] i e h = absurd (omega arith)
at_all test (x ∷ xs) zero e h = (both (test x) (all_of test xs) e).0
at_all test (x ∷ xs) (suc i) e h = at_all test xs i (both (test x) (all_of test xs) e).1 (omega arith)

-- ---- the digits of a number

two_digits : (n : ℕ) → all_of digit (in_two_digits n) ≡ true
unfolding in_two_digits
two_digits n = all_more digit (last_digit (n / 10)) (last_digit n ∷ []) (digit-is (n / 10)) (all_more digit (last_digit n) [] (digit-is n) (all_none digit))

four-digits : (n : ℕ) → all_of digit (in_four_digits n) ≡ true
unfolding in_four_digits
four-digits n = all_append digit (in_two_digits (n / 100)) (in_two_digits (n % 100)) (two_digits (n / 100)) (two_digits (n % 100))

decimal-digits : (n : ℕ) → all_of digit (decimal n) ≡ true
decimal-digits n = one (lt-or-ge n 10)
  where
    four : 10 ≤ n → 100 ≤ n → 1000 ≤ n → (n < 10000) ⊎ (10000 ≤ n) → all_of digit (decimal n) ≡ true
    four a b d (inl e) = rw (decimal-4 n a b d e) (four-digits n)
    four a b d (inr e) =
        rw (decimal-5 n a b d e) (all_more digit (last_digit (n / 10000)) (in_four_digits (n % 10000)) (digit-is (n / 10000)) (four-digits (n % 10000)))

    three : 10 ≤ n → 100 ≤ n → (n < 1000) ⊎ (1000 ≤ n) → all_of digit (decimal n) ≡ true
    three a b (inl d) = rw (decimal-3 n a b d) (all_more digit (last_digit (n / 100)) (in_two_digits (n % 100)) (digit-is (n / 100)) (two_digits (n % 100)))
    three a b (inr d) = four a b d (lt-or-ge n 10000)

    two : 10 ≤ n → (n < 100) ⊎ (100 ≤ n) → all_of digit (decimal n) ≡ true
    two a (inl b) = rw (decimal-2 n a b) (two_digits n)
    two a (inr b) = three a b (lt-or-ge n 1000)

    one : (n < 10) ⊎ (10 ≤ n) → all_of digit (decimal n) ≡ true
    one (inl a) = rw (decimal-1 n a) (all_more digit (last_digit n) [] (digit-is n) (all_none digit))
    one (inr a) = two a (lt-or-ge n 100)

digits-plain : (xs : List ℕ) → all_of digit xs ≡ true → all_of plain xs ≡ true
unfolding all_of
digits-plain [] e = refl
digits-plain (x ∷ xs) e =
    let s = both (digit x) (all_of digit xs) e in
    and_both (digit-plain x s.0) (digits-plain xs s.1)

-- a kind has one digit
pub kind-back : (k : ℕ) → k ≤ 5 → word_number (decimal k) 255 ≡ record { there = true; value = k }
unfolding word_number number_from
kind-back k h =
    let m : 10 * 0 + k % 10 ≡ k = omega arith in
    rw (decimal-1 k (omega arith), digit-is k, digit-back k, m, le-leb k 255 (omega arith)) refl

-- ten-thousandths have four
module _ (n : ℕ) (h : n ≤ 9999) where
  step : (value m : ℕ) (rest : List ℕ) → 10 * value + m % 10 ≤ 9999 → number_from 9999 value (last_digit m ∷ rest) ≡ number_from 9999 (10 * value + m % 10) rest
  unfolding number_from
  step value m rest l = rw (digit-is m, digit-back m, le-leb (10 * value + m % 10) 9999 l) refl

  ends : (v : ℕ) → v ≡ n → number_from 9999 v [] ≡ record { there = true; value = n }
  unfolding number_from
  ends v e = rw e refl

  -- up to 9999 ten-thousandths, printed in four digits, are read back
  pub part-back : word_number (in_four_digits n) 9999 ≡ record { there = true; value = n }
  unfolding word_number in_four_digits in_two_digits
  part-back =
      step 0 (n / 100 / 10) (last_digit (n / 100) ∷ last_digit (n % 100 / 10) ∷ last_digit (n % 100) ∷ []) (omega arith)
      ∙ step (10 * 0 + n / 100 / 10 % 10) (n / 100) (last_digit (n % 100 / 10) ∷ last_digit (n % 100) ∷ []) (omega arith)
      ∙ step (10 * (10 * 0 + n / 100 / 10 % 10) + n / 100 % 10) (n % 100 / 10) (last_digit (n % 100) ∷ []) (omega arith)
      ∙ step (10 * (10 * (10 * 0 + n / 100 / 10 % 10) + n / 100 % 10) + n % 100 / 10 % 10) (n % 100) [] (omega arith)
      ∙ ends (10 * (10 * (10 * (10 * 0 + n / 100 / 10 % 10) + n / 100 % 10) + n % 100 / 10 % 10) + n % 100 % 10) (omega arith)

-- ---- a size

-- no point stands before the last four of a number's digits
no-point : (w : List ℕ) → all_of digit w ≡ true → pointed w ≡ false
unfolding pointed
no-point w e = go (lt-or-ge (length w) 5)
  where
    go : (length w < 5) ⊎ (5 ≤ length w) → (leb 5 (length w) && eqb (get_or w (length w - 5) 0) 46) ≡ false
    go (inl h) = rw (lt-leb 5 (length w) h) refl
    go (inr h) =
        let d : digit (get_or w (length w - 5) 0) ≡ true = at_all digit w (length w - 5) e (omega arith) in
        let a : 48 ≤ get_or w (length w - 5) 0 = leb-true 48 (get_or w (length w - 5) 0)
        (and-fst (leb 48 (get_or w (length w - 5) 0)) (leb (get_or w (length w - 5) 0) 57) d) in
        rw (ne_eqb (get_or w (length w - 5) 0) 46 (λ q. omega arith)) (and-false (leb 5 (length w)))

-- a point and four digits after some bytes
module _ (a : List ℕ) (part : ℕ) where
  abbrev word : List ℕ
  word = a ++ (46 ∷ in_four_digits part)

  long : length word ≡ length a + 5
  unfolding in_four_digits in_two_digits
  long = length-append a (46 ∷ in_four_digits part)

  point_at : length word - 5 ≡ length a
  point_at = omega (arith, long)

  with-point : pointed word ≡ true
  unfolding pointed
  with-point = rw (point_at, get_or-append_seam a 46 (in_four_digits part) 0, le-leb 5 (length word) (omega (arith, long))) refl

  before-point : take (length word - 5) word ≡ a
  before-point = rw point_at (take_at a (46 ∷ in_four_digits part) (length a) refl)

  after-point : drop (length word - 4) word ≡ in_four_digits part
  after-point =
      let e : length word - 4 ≡ length (a ++ (46 ∷ [])) = omega (arith, long, length-append a (46 ∷ [])) in
      rw (e, ← append_assoc a (46 ∷ []) (in_four_digits part)) (drop_at (a ++ (46 ∷ [])) (in_four_digits part) (length (a ++ (46 ∷ []))) refl)

pub record SizeBack (shares part : ℕ) : Type 0 where
  -- the whole shares of a printed size are read back
  pub shares-back : shares_read (decimal shares ++ part_text part) ≡ record { there = true; value = shares }
  -- the ten-thousandths of a printed size are read back
  pub part-is : part_read (decimal shares ++ part_text part) ≡ record { there = true; value = part }
  -- the bytes of a printed size are those of a word
  pub bytes : all_of plain (decimal shares ++ part_text part) ≡ true

module _ (shares part : ℕ) (s : shares ≤ 65535) (p : part ≤ 9999) where
  whole-text : part ≡ 0 → decimal shares ++ part_text part ≡ decimal shares
  unfolding part_text
  whole-text z = rw (eq-eqb part 0 z) (append-nil (decimal shares))

  parted-text : (part ≡ 0 → ⊥) → decimal shares ++ part_text part ≡ word (decimal shares) part
  unfolding part_text
  parted-text n = rw (ne_eqb part 0 n) refl

  whole-size : part ≡ 0 → SizeBack shares part
  unfolding shares_read part_read
  whole-size z =
      let t = whole-text z in
      let w = no-point (decimal shares) (decimal-digits shares) in
      record { shares-back = rw (t, w) (number-back shares s); part-is = rw (t, w, z) refl; bytes = rw t (number-plain shares s) }

  parted-size : (part ≡ 0 → ⊥) → SizeBack shares part
  unfolding shares_read part_read
  parted-size n =
      let t = parted-text n in
      let w = with-point (decimal shares) part in
      record {
        shares-back = rw (t, w, before-point (decimal shares) part) (number-back shares s);
        part-is = rw (t, w, after-point (decimal shares) part) (part-back part p);
        bytes =
            rw t
            (all_append plain (decimal shares) (46 ∷ in_four_digits part) (number-plain shares s)
            (all_more plain 46 (in_four_digits part) (plain-is 46 (omega arith) (λ q. omega arith)) (digits-plain (in_four_digits part) (four-digits part))));
      }

  -- a printed size is read back, its whole shares and its ten-thousandths
  pub size_back : SizeBack shares part
  size_back = go (lt-or-ge part 1)
    where
      go : (part < 1) ⊎ (1 ≤ part) → SizeBack shares part
      go (inl h) = whole-size (omega arith)
      go (inr h) = parted-size (λ z. omega arith)
