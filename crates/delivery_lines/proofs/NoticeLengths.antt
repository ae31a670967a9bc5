-- A line that says a call has nine bytes or more, as its words and the spaces between them do: so a text of notices has room for so many calls and no more.
-- Assumes nothing.
use mathlib.Core.Path.{◌≡◌, refl, ◌∙◌}
use mathlib.Core.Bool.{Bool, true, false, ◌&&◌, ◌||◌, cond, and-false}
use mathlib.Core.Logic.{◌⊎◌, inl, inr}
use mathlib.Core.List.{List, [], ◌∷◌, ◌++◌}
use Prim.Native.Nat.{ℕ, ◌+◌, ◌-◌, ◌≤◌, ◌<◌}
use native.Mathlib.Omega.{arith}
use lib.Dec.{eqb, leb}
use lib.ListN.{length, get_or, take, length-append}
use lib.Seq.{length-take-le}
use borrow.Author.Tests.{leb-true, eqb-true, eq-eqb, ne_eqb}
use Rattle.questions.proofs.Bools.{both, lt-or-ge}
use Rattle.history.specs.Book.{roll, close, reopen, measure}
use Rattle.session_lines.specs.declared.Command.{Command}
use Rattle.session_lines.specs.CommandLines.{no_id, move_form, move_command, command_at, command_of}
use Rattle.file_text_lines.specs.Entries.{words_from, words_of, word_at, pointed, part_read, letter_form, id_bytes}
use Rattle.confirm_lines.specs.ListingLines.{date_in}
use Rattle.delivery_lines.specs.NoticeLines.{blank, trimmed, all_digits, is_number, whole_word, is_price, is_id, day_said, measure_words, measure_said, words_said}
use Rattle.delivery_lines.specs.NoticeLines.{trimmed_said, said_by, line_held, Said, nothing, bad, opening, notice, value_of, price_of}

-- ---- the words of a line and the spaces between them

unfoldable total : List (List ℕ) → ℕ
total [] = 0
total (word ∷ words) = length word + total words

total-more : (word : List ℕ) (words : List (List ℕ)) → total (word ∷ words) + length (word ∷ words) ≡ length word + 1 + (total words + length words)
unfolding total
total-more word words = omega arith

words-total : (begun line : List ℕ) → total (words_from begun line) + length (words_from begun line) ≡ length begun + length line + 1
unfolding total words_from
words-total begun [] = omega arith
words-total begun (byte ∷ rest) = go (eqb byte 32) (words-total [] rest) (words-total (begun ++ (byte ∷ [])) rest)
  where
    n : length (begun ++ (byte ∷ [])) ≡ length begun + 1
    n = length-append begun (byte ∷ [])

    go : (b : Bool)
        → total (words_from [] rest) + length (words_from [] rest) ≡ 0 + length rest + 1
        → total (words_from (begun ++ (byte ∷ [])) rest) + length (words_from (begun ++ (byte ∷ [])) rest) ≡ length (begun ++ (byte ∷ [])) + length rest + 1
        → total (cond b (begun ∷ words_from [] rest) (words_from (begun ++ (byte ∷ [])) rest)) + length
        (cond b (begun ∷ words_from [] rest) (words_from (begun ++ (byte ∷ [])) rest)) ≡ length begun + length (byte ∷ rest) + 1
    go true e f = omega (arith, e, total-more begun (words_from [] rest))
    go false e f = omega (arith, f, n)

five-total : (ws : List (List ℕ)) → length ws ≡ 5 → length (get_or ws 0 []) ≡ 1 → 1 ≤ length (get_or ws 1 []) → 1 ≤ length (get_or ws 2 [])
    → 1 ≤ length (get_or ws 3 []) → 1 ≤ length (get_or ws 4 []) → 5 ≤ total ws
unfolding total
five-total (v ∷ w ∷ x ∷ y ∷ z ∷ []) n a b c d e = omega arith
five-total (v ∷ w ∷ x ∷ y ∷ z ∷ u ∷ us) n a b c d e = absurd (omega arith)
five-total (w ∷ x ∷ y ∷ z ∷ []) n a b c d e = absurd (omega arith)
five-total (x ∷ y ∷ z ∷ []) n a b c d e = absurd (omega arith)
five-total (y ∷ z ∷ []) n a b c d e = absurd (omega arith)
five-total (z ∷ []) n a b c d e = absurd (omega arith)
five-total [] n a b c d e = absurd (omega arith)

two-total : (ws : List (List ℕ)) → length ws ≡ 2 → length (get_or ws 0 []) ≡ 1 → 10 ≤ length (get_or ws 1 []) → 11 ≤ total ws
unfolding total
two-total (y ∷ z ∷ []) n a b = omega arith
two-total (x ∷ y ∷ z ∷ zs) n a b = absurd (omega arith)
two-total (z ∷ []) n a b = absurd (omega arith)
two-total [] n a b = absurd (omega arith)

form-parts : (line : List ℕ) (words : ℕ) → letter_form line words ≡ true → (length (words_of line) ≡ words) × (length (word_at line 0) ≡ 1)
unfolding letter_form
form-parts line words e =
    let (a, b) = both (eqb (length (words_of line)) words) (eqb (length (word_at line 0)) 1) e in
    (eqb-true (length (words_of line)) words a, eqb-true (length (word_at line 0)) 1 b)

-- ---- how long words are

number-long : (word : List ℕ) → is_number word ≡ true → 1 ≤ length word
unfolding is_number
number-long word e = leb-true 1 (length word) (both (leb 1 (length word)) (all_digits word) e).0

whole_long : (word : List ℕ) → length (whole_word word) ≤ length word
unfolding whole_word
whole_long word = go (pointed word)
  where
    go : (b : Bool) → length (cond b (take (length word - 5) word) word) ≤ length word
    go true = omega (arith, length-take-le (length word - 5) word (omega arith))
    go false = omega arith

price-long : (word : List ℕ) → is_price word ≡ true → 1 ≤ length word
unfolding is_price
price-long word e =
    omega (arith, number-long (whole_word word) (both (is_number (whole_word word)) (part_read word).there e).0, whole_long word)

id-long : (word : List ℕ) → is_id word ≡ true → 1 ≤ length word
unfolding is_id
id-long word e = let (a, rest) = both _ _ e in leb-true 1 (length word) a

date-none : (word : List ℕ) → (length word ≡ 10 → ⊥) → (date_in word).letter ≡ 0
unfolding date_in command_of command_at move_command move_form
date-none word n = rw (ne_eqb (length (82 ∷ 32 ∷ word)) 12 (λ e. n (omega arith))) refl

date-long : (word : List ℕ) → ((date_in word).letter ≡ 0 → ⊥) → 10 ≤ length word
date-long word n = go (lt-or-ge (length word) 10)
  where
    go : (length word < 10) ⊎ (10 ≤ length word) → 10 ≤ length word
    go (inl h) = absurd (n (date-none word (λ e. omega arith)))
    go (inr h) = h

-- ---- a line by what it says

trimmed-most : (line : List ℕ) → length (trimmed line) ≤ length line
unfolding trimmed
trimmed-most [] = omega arith
trimmed-most (byte ∷ rest) = go (blank byte && eqb (length (trimmed rest)) 0) (trimmed-most rest)
  where
    go : (b : Bool) → length (trimmed rest) ≤ length rest → length (cond b [] (byte ∷ trimmed rest)) ≤ length (byte ∷ rest)
    go true h = omega arith
    go false h = omega arith

bad-letter : (line_held bad).letter ≡ 0
unfolding line_held
bad-letter = refl

nothing-letter : (line_held nothing).letter ≡ 35
unfolding line_held
nothing-letter = refl

module _ (line : List ℕ) where
  line-total : total (words_of line) + length (words_of line) ≡ length line + 1
  line-total = words-total [] line ∙ omega arith

  day-long : letter_form line 2 ≡ true → ((date_in (word_at line 1)).letter ≡ 0 → ⊥) → 9 ≤ length line
  unfolding word_at
  day-long f d =
      let p : (length (words_of line) ≡ 2) × (length (word_at line 0) ≡ 1) = form-parts line 2 f in
      omega (arith, line-total, p.0, two-total (words_of line) p.0 p.1 (date-long (word_at line 1) d))

  measure-long : letter_form line 5 ≡ true → measure_words line ≡ true → 9 ≤ length line
  unfolding word_at measure_words
  measure-long f m =
      let p : (length (words_of line) ≡ 5) × (length (word_at line 0) ≡ 1) = form-parts line 5 f in
      let (i, rest) = both (is_id (word_at line 1)) (is_number (word_at line 2) && (is_number (word_at line 3) && is_price (word_at line 4))) m in
      let (a, rest') = both (is_number (word_at line 2)) (is_number (word_at line 3) && is_price (word_at line 4)) rest in
      let (b, c) = both (is_number (word_at line 3)) (is_price (word_at line 4)) rest' in
      let t : 5 ≤ total (words_of line) = five-total (words_of line) p.0 p.1 (id-long (word_at line 1) i) (number-long (word_at line 2) a)
      (number-long (word_at line 3) b) (price-long (word_at line 4) c) in
      omega (arith, line-total, p.0, t)

  -- a day that is bad has no letter
  day-letter : (letter : ℕ) (date : Command) → date.letter ≡ 0 → (line_held (day_said letter date)).letter ≡ 0
  unfolding day_said line_held
  day-letter letter date e = rw (eq-eqb date.letter 0 e) refl

  measure-letter : measure_words line ≡ false → (line_held (measure_said line)).letter ≡ 0
  unfolding measure_said line_held
  measure-letter e = rw (e, and-false (eqb (get_or line 0 0) 77)) refl

  words_long : ((line_held (words_said line)).letter ≡ 0 → ⊥) → 9 ≤ length line
  unfolding words_said
  words_long n = go (letter_form line 2) refl (letter_form line 5) refl n
    where
      day : letter_form line 2 ≡ true → ((line_held (day_said (get_or line 0 0) (date_in (word_at line 1)))).letter ≡ 0 → ⊥) → 9 ≤ length line
      day f m = day-long f (λ e. m (day-letter (get_or line 0 0) (date_in (word_at line 1)) e))

      five : letter_form line 5 ≡ true → ((line_held (measure_said line)).letter ≡ 0 → ⊥) → (b : Bool) → measure_words line ≡ b → 9 ≤ length line
      five f m true e = measure-long f e
      five f m false e = absurd (m (measure-letter e))

      go : (a : Bool) → letter_form line 2 ≡ a → (b : Bool) → letter_form line 5 ≡ b
          → ((line_held (cond a (day_said (get_or line 0 0) (date_in (word_at line 1))) (cond b (measure_said line) bad))).letter ≡ 0 → ⊥) → 9 ≤ length line
      go true ea b eb m = day ea m
      go false ea true eb m = five eb m (measure_words line) refl
      go false ea false eb m = absurd (m bad-letter)

  trimmed-long : ((line_held (trimmed_said line)).letter ≡ 35 → ⊥) → ((line_held (trimmed_said line)).letter ≡ 0 → ⊥) → 9 ≤ length line
  unfolding trimmed_said
  trimmed-long c n = go (eqb (length line) 0 || eqb (get_or line 0 0) 35) c n
    where
      go : (b : Bool) → ((line_held (cond b nothing (words_said line))).letter ≡ 35 → ⊥) → ((line_held (cond b nothing (words_said line))).letter ≡ 0 → ⊥)
          → 9 ≤ length line
      go true m k = absurd (m nothing-letter)
      go false m k = words_long k

-- a line whose letter is neither that of a comment nor that of a bad line has nine bytes or more
pub said-long : (line : List ℕ) (letter : ℕ) → letter ≡ (line_held (said_by line)).letter → (letter ≡ 35 → ⊥) → (letter ≡ 0 → ⊥) → 9 ≤ length line
said-long line letter e c n =
    omega (arith, trimmed-most line, trimmed-long (trimmed line) (λ z. c (e ∙ z)) (λ z. n (e ∙ z)))

-- ---- the id of a line has four bytes

-- the first four bytes of a list, 0 for each that it does not have
unfoldable pub four_of : List ℕ → List ℕ
four_of id = get_or id 0 0 ∷ get_or id 1 0 ∷ get_or id 2 0 ∷ get_or id 3 0 ∷ []

day-four : (letter : ℕ) (date : Command) → (line_held (day_said letter date)).id ≡ four_of (line_held (day_said letter date)).id
unfolding four_of line_held day_said
day-four letter date = go (eqb date.letter 0) (eqb letter 79) (eqb letter 82) (eqb letter 67) (eqb letter 69)
  where
    said : Bool → Bool → Bool → Bool → Bool → Said
    said z o r c e =
        cond z bad
        (cond o (opening date.day)
        (cond r (notice (roll date.day) no_id) (cond c (notice (close date.day) no_id) (cond e (notice (reopen date.day) no_id) bad))))

    go : (z o r c e : Bool) → (line_held (said z o r c e)).id ≡ four_of (line_held (said z o r c e)).id
    go true o r c e = refl
    go false true r c e = refl
    go false false true c e = refl
    go false false false true e = refl
    go false false false false true = refl
    go false false false false false = refl

measure-four : (line : List ℕ) → (line_held (measure_said line)).id ≡ four_of (line_held (measure_said line)).id
unfolding four_of line_held measure_said id_bytes
measure-four line = go (eqb (get_or line 0 0) 77 && measure_words line)
  where
    said : Bool → Said
    said b =
        cond b
        (notice (measure (value_of (word_at line 2)) (value_of (word_at line 3)) (price_of (word_at line 4))) (id_bytes (word_at line 1)))
        bad

    go : (b : Bool) → (line_held (said b)).id ≡ four_of (line_held (said b)).id
    go true = refl
    go false = refl

words-four : (line : List ℕ) → (line_held (words_said line)).id ≡ four_of (line_held (words_said line)).id
unfolding words_said four_of line_held
words-four line = go (letter_form line 2) (letter_form line 5)
  where
    said : Bool → Bool → Said
    said a b = cond a (day_said (get_or line 0 0) (date_in (word_at line 1))) (cond b (measure_said line) bad)

    go : (a b : Bool) → (line_held (said a b)).id ≡ four_of (line_held (said a b)).id
    go true b = day-four (get_or line 0 0) (date_in (word_at line 1))
    go false true = measure-four line
    go false false = refl

trimmed-four : (line : List ℕ) → (line_held (trimmed_said line)).id ≡ four_of (line_held (trimmed_said line)).id
unfolding trimmed_said four_of line_held
trimmed-four line = go (eqb (length line) 0 || eqb (get_or line 0 0) 35)
  where
    go : (b : Bool) → (line_held (cond b nothing (words_said line))).id ≡ four_of (line_held (cond b nothing (words_said line))).id
    go true = refl
    go false = words-four line

-- the id held of a line has four bytes
pub said-four : (line : List ℕ) → (line_held (said_by line)).id ≡ four_of (line_held (said_by line)).id
said-four line = trimmed-four (trimmed line)
