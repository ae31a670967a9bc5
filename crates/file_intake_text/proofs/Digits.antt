-- The last of five digits are the number in decimal; a line is short.
-- Assumes nothing.
use mathlib.Core.Path.{◌≡◌, refl}
use mathlib.Core.Logic.{◌⊎◌, inl, inr}
use Prim.Native.Nat.{ℕ, ◌-◌, ◌%◌, ◌≤◌, ◌<◌}
use native.Mathlib.Omega.{arith}
use lib.ListN.{length, drop}
use borrow.Author.Tests.{lt-ltb, le-ltb}
use Rattle.questions.proofs.Bools.{lt-or-ge}
use Rattle.session_text.specs.TermsText.{in_two_digits, in_four_digits, decimal}
use Rattle.session_text.proofs.TermsTexts.{decimal-1, decimal-2, decimal-3, decimal-4, decimal-5}
use Rattle.file_text_print.proofs.TextLengths.{decimal-short}
use Rattle.file_intake_text.specs.declared.Ended.{Ended}
use Rattle.file_intake_text.specs.GatewayTexts.{ended_text, five_digits, digit_count}
use Rattle.file_intake_text.proofs.Pieces.{no_all, ok-all}

module _ (n : ℕ) where
  -- a number below 10 has one digit
  pub count-1 : n < 10 → 1 ≡ digit_count n
  unfolding digit_count
  count-1 a = rw (lt-ltb n 10 a) refl

  -- a number from 10 to 99 has two digits
  pub count-2 : 10 ≤ n → n < 100 → 2 ≡ digit_count n
  unfolding digit_count
  count-2 a b = rw (le-ltb n 10 a, lt-ltb n 100 b) refl

  -- a number from 100 to 999 has three digits
  pub count-3 : 10 ≤ n → 100 ≤ n → n < 1000 → 3 ≡ digit_count n
  unfolding digit_count
  count-3 a b d = rw (le-ltb n 10 a, le-ltb n 100 b, lt-ltb n 1000 d) refl

  -- a number from 1000 to 9999 has four digits
  pub count-4 : 10 ≤ n → 100 ≤ n → 1000 ≤ n → n < 10000 → 4 ≡ digit_count n
  unfolding digit_count
  count-4 a b d e = rw (le-ltb n 10 a, le-ltb n 100 b, le-ltb n 1000 d, lt-ltb n 10000 e) refl

  -- a number from 10000 on counts as five digits
  pub count-5 : 10 ≤ n → 100 ≤ n → 1000 ≤ n → 10000 ≤ n → 5 ≡ digit_count n
  unfolding digit_count
  count-5 a b d e = rw (le-ltb n 10 a, le-ltb n 100 b, le-ltb n 1000 d, le-ltb n 10000 e) refl

  -- without the zeros before it
  pub digits_are : (k : ℕ) → k ≡ digit_count n → drop (5 - k) (five_digits n) ≡ decimal n
  unfolding five_digits in_four_digits in_two_digits
  digits_are k e = one (lt-or-ge n 10)
    where
      four : 10 ≤ n → 100 ≤ n → 1000 ≤ n → (n < 10000) ⊎ (10000 ≤ n) → drop (5 - k) (five_digits n) ≡ decimal n
      four a b d (inl x) =
          let m : n % 10000 ≡ n = omega arith in
          rw (e, ← count-4 a b d x, decimal-4 n a b d x, m) refl
      four a b d (inr x) = rw (e, ← count-5 a b d x, decimal-5 n a b d x) refl

      three : 10 ≤ n → 100 ≤ n → (n < 1000) ⊎ (1000 ≤ n) → drop (5 - k) (five_digits n) ≡ decimal n
      three a b (inl x) =
          let m : n % 10000 ≡ n = omega arith in
          rw (e, ← count-3 a b x, decimal-3 n a b x, m) refl
      three a b (inr x) = four a b x (lt-or-ge n 10000)

      two : 10 ≤ n → (n < 100) ⊎ (100 ≤ n) → drop (5 - k) (five_digits n) ≡ decimal n
      two a (inl x) =
          let m : n % 10000 ≡ n = omega arith in
          let h : n % 100 ≡ n = omega arith in
          rw (e, ← count-2 a x, decimal-2 n a x, m, h) refl
      two a (inr x) = three a x (lt-or-ge n 1000)

      one : (n < 10) ⊎ (10 ≤ n) → drop (5 - k) (five_digits n) ≡ decimal n
      one (inl x) =
          let m : n % 10000 ≡ n = omega arith in
          let h : n % 100 ≡ n = omega arith in
          rw (e, ← count-1 x, decimal-1 n x, m, h) refl
      one (inr x) = two x (lt-or-ge n 100)

-- the line of an ended intake has at most 16 bytes
pub ended-short : (e : Ended) → length (ended_text e) ≤ 16
ended-short e = go (lt-or-ge e.refusal 1)
  where
    go : (e.refusal < 1) ⊎ (1 ≤ e.refusal) → length (ended_text e) ≤ 16
    go (inl h) = omega (arith, ok-all e (omega arith), decimal-short e.years, decimal-short e.records)
    go (inr h) = omega (arith, no_all e (λ z. omega arith), decimal-short e.refusal)
