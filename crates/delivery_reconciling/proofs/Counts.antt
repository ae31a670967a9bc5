-- The line of the counts and the heading have fewer than 64 bytes, so all of them is told and written.
-- Assumes nothing.
use mathlib.Core.Path.{◌≡◌, refl, ap}
use mathlib.Core.Bool.{cond}
use mathlib.Core.List.{List, [], ◌∷◌, ◌++◌}
use mathlib.Core.Logic.{◌⊎◌, inl, inr}
use Prim.Native.Nat.{ℕ, ◌/◌, ◌%◌, ◌≤◌, ◌<◌}
use native.Mathlib.Omega.{arith}
use lib.Dec.{ltb}
use lib.ListN.{length, length-append}
use borrow.Author.Tests.{lt-ltb, le-ltb}
use Rattle.questions.proofs.Bools.{lt-or-ge}
use Rattle.session_lines.specs.declared.Line.{Line}
use Rattle.session_lines.specs.CommandLines.{empty_line}
use Rattle.file_text_print.specs.Contents.{LineWith}
use Rattle.session_text.specs.TermsText.{in_two_digits, in_four_digits, decimal}
use Rattle.session_text.proofs.TermsTexts.{decimal-1}
use Rattle.file_text_print.proofs.TextLengths.{decimal-short}
use Rattle.delivery_answers.specs.Numbers.{in_eight_digits, decimal_short, number_text}
use Rattle.delivery_answers.proofs.ReplyLengths.{short-most}
use Rattle.delivery_inputs.proofs.ShortLines.{line-room, line-fits, line-long}
use Rattle.delivery_reports.specs.Reports.{differences_heading}
use Rattle.delivery_reconciled.specs.Reconciled.{summary_text}

-- a line made of a text of fewer than 64 bytes has room in its bytes, and is as long as its text
pub text-fits : (text : List ℕ) → length text < 64 → (l : Line) → LineWith empty_line text l → (l.length ≤ length l.bytes) × (l.length ≡ length text)
text-fits text short l made =
    let room : length l.bytes ≡ 64 = line-room text short l made in
    (omega (arith, room, line-fits text short l made), line-long text short l made)

-- the heading has fewer than 64 bytes
pub heading-short : length differences_heading < 64
unfolding differences_heading
heading-short = omega arith

four-long : (n : ℕ) → length (in_four_digits n) ≡ 4
unfolding in_four_digits in_two_digits
four-long n = refl

eight-long : (n : ℕ) → length (in_eight_digits n) ≡ 8
unfolding in_eight_digits
eight-long n = omega (arith, length-append (in_four_digits (n / 10000)) (in_four_digits (n % 10000)), four-long (n / 10000), four-long (n % 10000))

one-long : (n : ℕ) → n < 10 → length (decimal n) ≡ 1
one-long n h = ap length (decimal-1 n h)

short-five : (n : ℕ) → n < 100000 → length (decimal_short n) ≤ 5
unfolding decimal_short
short-five n h = go (lt-or-ge n 10000)
  where
    go : (n < 10000) ⊎ (10000 ≤ n) → length (cond (ltb n 10000) (decimal n) (decimal (n / 10000) ++ in_four_digits (n % 10000))) ≤ 5
    go (inl l) = rw (lt-ltb n 10000 l) (decimal-short n)
    go (inr l) =
        rw (le-ltb n 10000 l)
        (omega (arith, length-append (decimal (n / 10000)) (in_four_digits (n % 10000)), one-long (n / 10000) (omega arith), four-long (n % 10000)))

number-five : (n : ℕ) → n < 100000 → length (number_text n) ≤ 5
unfolding number_text
number-five n h = let e : n < 100000000 = omega arith in rw (lt-ltb n 100000000 e) (short-five n h)

number-nine : (n : ℕ) → n < 1000000000 → length (number_text n) ≤ 9
unfolding number_text decimal_short
number-nine n h = go (lt-or-ge n 100000000)
  where
    go : (n < 100000000) ⊎ (100000000 ≤ n) → length (number_text n) ≤ 9
    go (inl l) = rw (lt-ltb n 100000000 l) (short-most n)
    go (inr l) =
        let a : n / 100000000 < 10 = omega arith in
        let b : n / 100000000 < 100000000 = omega arith in
        let c : n / 100000000 < 10000 = omega arith in
        rw (le-ltb n 100000000 l, lt-ltb (n / 100000000) 100000000 b, lt-ltb (n / 100000000) 10000 c)
        (omega (arith, length-append (decimal (n / 100000000)) (in_eight_digits (n % 100000000)), one-long (n / 100000000) a, eight-long (n % 100000000)))

-- the line of the counts, with so many products, rows, lines and bad lines, has fewer than 64 bytes
pub summary-short : (products rows differ bad : ℕ) → products < 100000 → rows < 100000 → differ < 1000000000 → bad < 1000000000
    → length (summary_text products rows differ bad) < 64
unfolding summary_text
summary-short products rows differ bad a b c d =
    let last : length (number_text bad ++ (32 ∷ 98 ∷ 97 ∷ 100 ∷ 10 ∷ [])) ≤ 14 =
    omega (arith, length-append (number_text bad) (32 ∷ 98 ∷ 97 ∷ 100 ∷ 10 ∷ []), number-nine bad d) in
    let third : length (number_text differ ++
    ((32 ∷ 100 ∷ 105 ∷ 102 ∷ 102 ∷ 101 ∷ 114 ∷ 44 ∷ 32 ∷ []) ++ (number_text bad ++ (32 ∷ 98 ∷ 97 ∷ 100 ∷ 10 ∷ [])))) ≤ 32 =
    omega (
      arith,
      length-append (number_text differ) ((32 ∷ 100 ∷ 105 ∷ 102 ∷ 102 ∷ 101 ∷ 114 ∷ 44 ∷ 32 ∷ []) ++ (number_text bad ++ (32 ∷ 98 ∷ 97 ∷ 100 ∷ 10 ∷ []))),
      number-nine differ c,
      last,
    ) in
    let second : length (number_text rows ++
    ((32 ∷ 114 ∷ 111 ∷ 119 ∷ 115 ∷ 44 ∷ 32 ∷ [])
    ++ (number_text differ ++ ((32 ∷ 100 ∷ 105 ∷ 102 ∷ 102 ∷ 101 ∷ 114 ∷ 44 ∷ 32 ∷ []) ++ (number_text bad ++ (32 ∷ 98 ∷ 97 ∷ 100 ∷ 10 ∷ [])))))) ≤ 44 =
    omega (
      arith,
      length-append (number_text rows) ((32 ∷ 114 ∷ 111 ∷ 119 ∷ 115 ∷ 44 ∷ 32 ∷ [])
          ++ (number_text differ ++ ((32 ∷ 100 ∷ 105 ∷ 102 ∷ 102 ∷ 101 ∷ 114 ∷ 44 ∷ 32 ∷ []) ++ (number_text bad ++ (32 ∷ 98 ∷ 97 ∷ 100 ∷ 10 ∷ []))))),
      number-five rows b,
      third,
    ) in
    omega (
      arith,
      length-append (number_text products) ((32 ∷ 112 ∷ 114 ∷ 111 ∷ 100 ∷ 117 ∷ 99 ∷ 116 ∷ 115 ∷ 44 ∷ 32 ∷ [])
          ++ (number_text rows ++ ((32 ∷ 114 ∷ 111 ∷ 119 ∷ 115 ∷ 44 ∷ 32 ∷ [])
          ++ (number_text differ ++ ((32 ∷ 100 ∷ 105 ∷ 102 ∷ 102 ∷ 101 ∷ 114 ∷ 44 ∷ 32 ∷ []) ++ (number_text bad ++ (32 ∷ 98 ∷ 97 ∷ 100 ∷ 10 ∷ []))))))),
      number-five products a,
      second,
    )
