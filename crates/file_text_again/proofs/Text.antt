-- The lines that are printed of a cover, a closed day and a right record say these.
-- Assumes nothing.
use mathlib.Core.Path.{◌≡◌, refl, ap, ◌∙◌}
use mathlib.Core.List.{List, [], ◌∷◌, ◌++◌}
use mathlib.Core.Bool.{true, and-false}
use mathlib.Core.Logic.{◌⊎◌, inl, inr}
use Prim.Native.Nat.{ℕ, ◌≤◌, ◌<◌}
use native.Mathlib.Omega.{arith}
use lib.ListN.{length, get_or, length-append}
use borrow.Author.Tests.{eq-eqb, ne_eqb}
use Rattle.questions.proofs.Bools.{clash, lt-or-ge}
use Rattle.calendar.specs.declared.Cover.{Cover}
use Rattle.calendar.proofs.Covered.{years}
use Rattle.file_blocks.specs.Blocks.{number_at}
use Rattle.file_records.specs.Records.{three_bytes, four_bytes, record_right}
use Rattle.file_write.specs.FilesWritten.{are_bytes}
use Rattle.session_text.specs.TermsText.{decimal, day_text}
use Rattle.file_text_lines.specs.declared.NumberRead.{NumberRead}
use Rattle.file_text_lines.specs.Entries.{no_number, word_number}
use Rattle.delivery_lines.specs.NoticeLines.{blank, trimmed}
use Rattle.file_text_print.specs.Contents.{id_text, part_text, cover_text, marked_text, product_text}
use Rattle.file_text_print.proofs.TextLengths.{day-long}
use Rattle.delivery_own.proofs.RowBytes.{all_of, plain, plain-is, all_append, all_more, all_none}
use Rattle.delivery_own.proofs.WordsReadBack.{number-back, number-plain}
use Rattle.delivery_own.proofs.DatesReadBack.{day-plain}
use Rattle.file_text_again.proofs.LinesParted.{in_line, word_in, no_end, said-letter}
use Rattle.file_text_again.proofs.LinesAgain.{cover_line, cover-text, cover_read, cover-back, day_line_of, day-text, day_read_as, day-entry-back}
use Rattle.file_text_again.proofs.ProductLines.{product_line, product-text, product_read, fields, size, kind-plain, tick-plain, product-back}
use Rattle.file_text_again.proofs.LinesSaid.{Printed}

-- ---- printed lines

space-in : in_line 32 ≡ true
unfolding in_line plain
space-in = refl

-- after a letter and a space
letter-line : (c : ℕ) (rest : List ℕ) → 45 ≤ c → (c ≡ 59 → ⊥) → all_of in_line rest ≡ true → all_of in_line (c ∷ 32 ∷ rest) ≡ true
letter-line c rest h n e =
    all_append in_line (c ∷ []) (32 ∷ rest) (word_in (c ∷ []) (all_more plain c [] (plain-is c h n) (all_none plain))) (all_more in_line 32 rest space-in e)

-- no blank stands at the end, and there is a byte
record Ends (w : List ℕ) : Type 0 where
  whole : trimmed w ≡ w
  some : 1 ≤ length w

ends-word : (w : List ℕ) → all_of plain w ≡ true → 1 ≤ length w → Ends w
ends-word w e h = record { whole = no_end [] w e h; some = h }

ends-after : (xs ys : List ℕ) → Ends ys → Ends (xs ++ ys)
unfolding trimmed
ends-after [] ys h = h
ends-after (x ∷ xs) ys h =
    let k = ends-after xs ys h in
    record {
      whole = rw (k.whole, ne_eqb (length (xs ++ ys)) 0 (λ q. omega (arith, k.some)), and-false (blank x)) refl;
      some = omega arith;
    }

some_bytes : (w : List ℕ) (most v : ℕ) → word_number w most ≡ record { there = true; value = v } → 1 ≤ length w
unfolding word_number
some_bytes w most v e = go (lt-or-ge (length w) 1)
  where
    go : (length w < 1) ⊎ (1 ≤ length w) → 1 ≤ length w
    go (inl h) = clash (ap (λ (x : NumberRead). x.there) e) (ap (λ (x : NumberRead). x.there) (none (omega arith)))
      where
        none : length w ≡ 0 → word_number w most ≡ no_number
        none z = rw (eq-eqb (length w) 0 z) refl
    go (inr h) = h

module _ (c : Cover) (a : c.first_year ≤ 65535) (b : c.years ≤ 65535) where
  abbrev first_word : List ℕ
  first_word = decimal c.first_year

  abbrev years-word : List ℕ
  years-word = decimal c.years

  cover-in : all_of in_line (cover_line c) ≡ true
  cover-in =
      letter-line 89 (first_word ++ (32 ∷ years-word)) (omega arith) (λ q. omega arith)
      (all_append in_line first_word (32 ∷ years-word) (word_in first_word (number-plain c.first_year a))
      (all_more in_line 32 years-word space-in (word_in years-word (number-plain c.years b))))

  cover-ends : Ends (cover_line c)
  cover-ends =
      ends-after (89 ∷ 32 ∷ []) (first_word ++ (32 ∷ years-word))
      (ends-after first_word (32 ∷ years-word)
      (ends-after (32 ∷ []) years-word (ends-word years-word (number-plain c.years b) (some_bytes years-word 65535 c.years (number-back c.years b)))))

  -- the printed text of a cover with numbers of 16 bits is a line that says it
  pub cover-printed : Printed (cover_text c) (cover_read c)
  cover-printed =
      record {
        line = cover_line c;
        text = cover-text c;
        inside = cover-in;
        says =
            λ first. said-letter first 89 (32 ∷ (first_word ++ (32 ∷ years-word))) cover-ends.whole (λ q. omega arith) (λ q. omega arith) ∙ cover-back c a b;
      }

-- a closed day
module _ (letter d : ℕ) (l : (letter ≡ 67) ⊎ (letter ≡ 88)) (h : d < 36525) where
  letter-is : (65 ≤ letter) × (letter ≤ 90)
  letter-is = go l
    where
      go : (letter ≡ 67) ⊎ (letter ≡ 88) → (65 ≤ letter) × (letter ≤ 90)
      go (inl e) = (omega arith, omega arith)
      go (inr e) = (omega arith, omega arith)

  -- the printed text of a day below 36525 with the letter C or X is a line that says it
  pub day-printed : Printed (marked_text letter d) (day_read_as letter d)
  day-printed =
      record {
        line = day_line_of letter d;
        text = day-text letter d;
        inside = letter-line letter (day_text d) (omega (arith, letter-is.0)) (λ q. omega (arith, letter-is.0)) (word_in (day_text d) (day-plain d));
        says =
            λ first. said-letter first letter (32 ∷ day_text d)
            (ends-after (letter ∷ 32 ∷ []) (day_text d) (ends-word (day_text d) (day-plain d) (omega (arith, day-long d)))).whole
            (λ q. omega (arith, letter-is.0)) (λ q. omega (arith, letter-is.1)) ∙ day-entry-back letter d l h;
      }

-- a product
module _ (r : List ℕ) (long : length r ≡ 32) (bytes : are_bytes r ≡ true) (right : record_right r ≡ true) (short : length (product_text r) < 64) where
  abbrev w1 : List ℕ
  w1 = id_text (four_bytes r 0)

  abbrev w4 : List ℕ
  w4 = decimal (get_or r 12 0)

  abbrev w5 : List ℕ
  w5 = decimal (number_at r 13) ++ part_text (number_at r 20)

  abbrev w6 : List ℕ
  w6 = decimal (number_at r 15)

  line-length : length (product_line r) < 64
  line-length = omega (arith, ap length (product-text r), length-append (product_line r) (10 ∷ []))

  spaced-in : (x y : List ℕ) → all_of plain x ≡ true → all_of in_line y ≡ true → all_of in_line (x ++ (32 ∷ y)) ≡ true
  spaced-in x y p q = all_append in_line x (32 ∷ y) (word_in x p) (all_more in_line 32 y space-in q)

  product-in : all_of in_line (product_line r) ≡ true
  product-in =
      let f = fields r right in
      spaced-in (80 ∷ []) _ (all_more plain 80 [] (plain-is 80 (omega arith) (λ q. omega arith)) (all_none plain))
      (spaced-in w1 _ f.id.fields
      (spaced-in (four_bytes r 4) _ f.group
      (spaced-in (four_bytes r 8) _ f.market
      (spaced-in w4 _ (kind-plain r long bytes right)
      (spaced-in w5 _ (size r long bytes right).bytes
      (spaced-in w6 (three_bytes r 17) (tick-plain r long bytes right) (word_in (three_bytes r 17) f.currency)))))))

  three-some : 1 ≤ length (three_bytes r 17)
  unfolding three_bytes
  three-some = omega arith

  spaced-ends : (x y : List ℕ) → Ends y → Ends (x ++ (32 ∷ y))
  spaced-ends x y h = ends-after x (32 ∷ y) (ends-after (32 ∷ []) y h)

  product-ends : Ends (product_line r)
  product-ends =
      spaced-ends (80 ∷ []) _
      (spaced-ends w1 _
      (spaced-ends (four_bytes r 4) _
      (spaced-ends (four_bytes r 8) _
      (spaced-ends w4 _ (spaced-ends w5 _ (spaced-ends w6 _ (ends-word (three_bytes r 17) (fields r right).currency three-some)))))))

  -- the printed text of a right record, if short enough for a line, is a line that says it
  pub product-printed : Printed (product_text r) (product_read r)
  product-printed =
      record {
        line = product_line r;
        text = product-text r;
        inside = product-in;
        says = λ first. said-letter first 80 _ product-ends.whole (λ q. omega arith) (λ q. omega arith) ∙ product-back r long bytes right line-length;
      }
