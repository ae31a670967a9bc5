-- What is told of a line, and the number of the bad ones.
-- Assumes nothing.
use mathlib.Core.Path.{◌≡◌, refl, sym, ap, ◌∙◌}
use mathlib.Core.Bool.{Bool, true, false, cond}
use mathlib.Core.List.{List, [], ◌∷◌, ◌++◌, append-nil, append_assoc}
use mathlib.Core.Logic.{◌⊎◌, inl, inr}
use Prim.Native.Nat.{ℕ, ◌+◌, ◌≤◌, ◌<◌}
use native.Mathlib.Omega.{arith}
use lib.Dec.{eqb, ltb}
use lib.ListN.{length, length-append}
use borrow.Author.Tests.{lt-ltb, le-ltb, eq-eqb, ne_eqb}
use Rattle.questions.proofs.Bools.{lt-or-ge}
use Rattle.session_lines.specs.declared.Line.{Line}
use Rattle.session_lines.specs.CommandLines.{empty_line, fed}
use Rattle.file_text_print.specs.Contents.{LineWith}
use Rattle.file_text_read.specs.Lists.{next_line}
use Rattle.delivery_answers.specs.Numbers.{number_text}
use Rattle.delivery_answers.proofs.ReplyLengths.{number-most}
use Rattle.delivery_receipts.specs.Receiving.{told_of}
use Rattle.delivery_inputs.specs.ReconcileInputs.{bad_row_text, bad_rows_text, bads_counted, bad_count}

-- the line that tells a bad line of standard input has fewer than 64 bytes
pub bad-row-short : (k : ℕ) → length (bad_row_text k) < 64
unfolding bad_row_text
bad-row-short k = omega (arith, length-append (number_text k) (58 ∷ 32 ∷ 66 ∷ 65 ∷ 68 ∷ 10 ∷ []), number-most k)

one-text : (b : ℕ) → bad_row_text b ≡ bad_rows_text (b ∷ [])
unfolding bad_rows_text
one-text b = sym (append-nil (bad_row_text b))

none-text : bad_rows_text [] ≡ []
unfolding bad_rows_text
none-text = refl

-- what is told of one line fits into a line
pub told-short : (n : ℕ) → length (bad_rows_text (told_of n)) < 64
told-short n = go (eqb n 0)
  where
    go : (b : Bool) → length (bad_rows_text (cond b [] (n ∷ []))) < 64
    go true = omega (arith, ap length none-text)
    go false = omega (arith, ap length (one-text n), bad-row-short n)

-- ---- what is told of a line

-- of a line that is not bad nothing is told
pub told_none : (n : ℕ) (l : Line) → n ≡ 0 → l ≡ empty_line → LineWith empty_line (bad_rows_text (told_of n)) l
unfolding bad_rows_text fed
told_none n l z e = record { is = rw z e }

-- of a bad line its number is told
pub told-one : (n : ℕ) (l : Line) → (n ≡ 0 → ⊥) → LineWith empty_line (bad_row_text n) l → LineWith empty_line (bad_rows_text (told_of n)) l
told-one n l z made = rw (ne_eqb n 0 z, ← one-text n) made

-- what is told of two lists of bad lines, one after the other, is what is told of each
pub rows_append : (a b : List ℕ) → bad_rows_text (a ++ b) ≡ bad_rows_text a ++ bad_rows_text b
unfolding bad_rows_text
rows_append [] b = refl
rows_append (x ∷ a) b =
    ap (λ (t : List ℕ). bad_row_text x ++ t) (rows_append a b) ∙ sym (append_assoc (bad_row_text x) (bad_rows_text a) (bad_rows_text b))

-- ---- how many are bad

counted-more : (n : ℕ) → next_line (bads_counted n) ≡ bads_counted (n + 1)
unfolding next_line bads_counted
counted-more n = go (lt-or-ge (n + 1) 999999999) (lt-or-ge n 999999999)
  where
    go : (n + 1 < 999999999) ⊎ (999999999 ≤ n + 1) → (n < 999999999) ⊎ (999999999 ≤ n)
        → cond (ltb (cond (ltb n 999999999) n 999999999) 999999999) (cond (ltb n 999999999) n 999999999 + 1) (cond (ltb n 999999999) n 999999999)
        ≡ cond (ltb (n + 1) 999999999) (n + 1) 999999999
    go (inl a) (inl b) = rw (lt-ltb n 999999999 b, lt-ltb n 999999999 b, lt-ltb (n + 1) 999999999 a) refl
    go (inl a) (inr b) = absurd (omega arith)
    go (inr a) (inl b) =
        let e : n + 1 ≡ 999999999 = omega arith in
        rw (lt-ltb n 999999999 b, lt-ltb n 999999999 b, le-ltb (n + 1) 999999999 a) e
    go (inr a) (inr b) = rw (le-ltb n 999999999 b, le-ltb (n + 1) 999999999 a) refl

-- a line that is not bad leaves the count of bad lines as it is
pub none-counted : (bad n : ℕ) → n ≡ 0 → bad ≡ bad_count bad n
unfolding bad_count
none-counted bad n z = rw (eq-eqb n 0 z) refl

-- a bad line adds one to the count of bad lines, up to 999,999,999
pub one-counted : (bad n r : ℕ) → (n ≡ 0 → ⊥) → r ≡ next_line bad → r ≡ bad_count bad n
unfolding bad_count
one-counted bad n r z e = rw (ne_eqb n 0 z) e

-- the count after a line is that of the bad lines before it and the line where it is bad
pub count-is : (bad k r n : ℕ) → r ≡ bad_count bad k → bad ≡ bads_counted n → r ≡ bads_counted (n + length (told_of k))
unfolding bad_count
count-is bad k r n e q = go (eqb k 0) e
  where
    go : (b : Bool) → r ≡ cond b bad (next_line bad) → r ≡ bads_counted (n + length (cond b [] (k ∷ [])))
    go true e =
        let z : n ≡ n + length {A = ℕ} [] = omega arith in
        e ∙ q ∙ ap bads_counted z
    go false e =
        let z : n + 1 ≡ n + length (k ∷ []) = omega arith in
        e ∙ ap next_line q ∙ counted-more n ∙ ap bads_counted z
