-- What a line says, form by form, as the code holds it.
-- Assumes nothing.
use mathlib.Core.Path.{◌≡◌, refl, ◌∙◌, sym, ap}
use mathlib.Core.Bool.{Bool, true, false, ◌&&◌, ◌||◌}
use mathlib.Core.List.{List}
use Prim.Native.Nat.{ℕ, zero, suc, ◌+◌, ◌≤◌}
use native.Mathlib.Omega.{arith}
use lib.Dec.{eqb}
use lib.ListN.{length, get_or, take}
use lib.Seq.{take_all}
use borrow.Author.Tests.{le-leb, eq-eqb, ne_eqb, eqb-true}
use Rattle.questions.proofs.Bools.{both, clash}
use Rattle.questions.specs.Search.{every}
use Rattle.std.specs.List.{list_all}
use Rattle.std.proofs.lemmas.List.Folds.{list_all_more}
use Rattle.product.specs.Fields.{id_character}
use Rattle.session_lines.specs.declared.Command.{Command}
use Rattle.file_text_lines.specs.declared.NumberRead.{NumberRead}
use Rattle.file_text_lines.specs.Entries.{word_at, letter_form, id_bytes}
use Rattle.confirm_lines.specs.ListingLines.{date_in}
use Rattle.delivery_lines.specs.NoticeLines.{is_id, date_letter, day_said, measure_words, measure_said, words_said, trimmed_said, number_held, price_held}
use Rattle.delivery_lines.specs.NoticeLines.{day_line_held, line_held}
use Rattle.delivery_lines.proofs.NoticeValues.{number-there, number-value, priced, price-value}

-- an id
module _ (word : List ℕ) where
  every-list : (n : ℕ) → n ≤ length word → list_all id_character (take n word) ≡ every n (λ i. id_character (get_or word i 0))
  unfolding every
  every-list zero h = refl
  every-list (suc n) h =
      let e : n + 1 ≡ suc n = omega arith in
      ap (λ (k : ℕ). list_all id_character (take k word)) (sym e) ∙ list_all_more id_character word n 0 (omega arith)
      ∙ ap (λ (b : Bool). b && id_character (get_or word n 0)) (every-list n (omega arith))

  -- a word of 1 to 4 bytes is an id where each byte is a character that an id may have
  pub id-all : 1 ≤ length word → length word ≤ 4 → list_all id_character word ≡ is_id word
  unfolding is_id
  id-all a b =
      rw (le-leb 1 (length word) a, le-leb (length word) 4 b)
      (ap (list_all id_character) (sym (take_all (length word) word (omega arith))) ∙ every-list (length word) (omega arith))

-- a line with a date
module _ (letter : ℕ) (date : Command) where
  -- a line whose second word is no date is bad
  pub day-dateless : date.letter ≡ 0 → day_line_held 0 0 ≡ line_held (day_said letter date)
  unfolding day_said line_held
  day-dateless e = rw (eq-eqb date.letter 0 e) refl

  module _ (e : date.letter ≡ 0 → ⊥) where
    day-o : eqb letter 79 ≡ true → day_line_held letter date.day ≡ line_held (day_said letter date)
    unfolding day_said line_held
    day-o q = rw (ne_eqb date.letter 0 e, q, eqb-true letter 79 q) refl

    module _ (o : eqb letter 79 ≡ false) where
      day-r : eqb letter 82 ≡ true → day_line_held letter date.day ≡ line_held (day_said letter date)
      unfolding day_said line_held
      day-r q = rw (ne_eqb date.letter 0 e, o, q, eqb-true letter 82 q) refl

      module _ (r : eqb letter 82 ≡ false) where
        day-c : eqb letter 67 ≡ true → day_line_held letter date.day ≡ line_held (day_said letter date)
        unfolding day_said line_held
        day-c q = rw (ne_eqb date.letter 0 e, o, r, q, eqb-true letter 67 q) refl

        module _ (c : eqb letter 67 ≡ false) where
          day-e : eqb letter 69 ≡ true → day_line_held letter date.day ≡ line_held (day_said letter date)
          unfolding day_said line_held
          day-e q = rw (ne_eqb date.letter 0 e, o, r, c, q, eqb-true letter 69 q) refl

          day-no : eqb letter 69 ≡ false → day_line_held 0 0 ≡ line_held (day_said letter date)
          unfolding day_said line_held
          day-no q = rw (ne_eqb date.letter 0 e, o, r, c, q) refl

    -- a line with the letter O, R, C or E and a date is held with its letter and day
    pub day-is : date_letter letter ≡ true → day_line_held letter date.day ≡ line_held (day_said letter date)
    day-is f = go (eqb letter 79) (eqb letter 82) (eqb letter 67) (eqb letter 69) refl refl refl refl f
      where
        go : (o r c q : Bool) → eqb letter 79 ≡ o → eqb letter 82 ≡ r → eqb letter 67 ≡ c → eqb letter 69 ≡ q → (o || (r || (c || q))) ≡ true
            → day_line_held letter date.day ≡ line_held (day_said letter date)
        go true r c q eo er ec eq h = day-o eo
        go false true c q eo er ec eq h = day-r eo er
        go false false true q eo er ec eq h = day-c eo er ec
        go false false false true eo er ec eq h = day-e eo er ec eq
        go false false false false eo er ec eq h = clash h refl

    -- a line with a date but another letter is bad
    pub day-letterless : date_letter letter ≡ false → day_line_held 0 0 ≡ line_held (day_said letter date)
    day-letterless f = go (eqb letter 79) (eqb letter 82) (eqb letter 67) (eqb letter 69) refl refl refl refl f
      where
        go : (o r c q : Bool) → eqb letter 79 ≡ o → eqb letter 82 ≡ r → eqb letter 67 ≡ c → eqb letter 69 ≡ q → (o || (r || (c || q))) ≡ false
            → day_line_held 0 0 ≡ line_held (day_said letter date)
        go true r c q eo er ec eq h = clash refl h
        go false true c q eo er ec eq h = clash refl h
        go false false true q eo er ec eq h = clash refl h
        go false false false true eo er ec eq h = clash refl h
        go false false false false eo er ec eq h = day-no eo er ec eq

-- a measure
idless-words : (line : List ℕ) → is_id (word_at line 1) ≡ false → measure_words line ≡ false
unfolding measure_words
idless-words line i = rw i refl

module _ (line : List ℕ) where
  -- a measure's line that does not begin with M is bad
  pub measure-letterless : (get_or line 0 0 ≡ 77 → ⊥) → day_line_held 0 0 ≡ line_held (measure_said line)
  unfolding measure_said line_held
  measure-letterless e = rw (ne_eqb (get_or line 0 0) 77 e) refl

  module _ (m : get_or line 0 0 ≡ 77) where
    measure-bad : measure_words line ≡ false → day_line_held 0 0 ≡ line_held (measure_said line)
    unfolding measure_said line_held
    measure-bad t = rw (eq-eqb (get_or line 0 0) 77 m, t) refl

    -- a measure's line whose second word is no id is bad
    pub measure-idless : is_id (word_at line 1) ≡ false → day_line_held 0 0 ≡ line_held (measure_said line)
    measure-idless i = measure-bad (idless-words line i)

    module _ (i : is_id (word_at line 1) ≡ true) (p q price : NumberRead) (e : p ≡ number_held (word_at line 2)) (g : q ≡ number_held (word_at line 3))
        (h : price ≡ price_held (word_at line 4)) where
      words : measure_words line ≡ (p.there && (q.there && price.there))
      unfolding measure_words
      words = rw (i, number-there (word_at line 2) p e, number-there (word_at line 3) q g, priced (word_at line 4) price h) refl

      -- a measure's line in which p, q or the price is no number is bad
      pub measure-none : (p.there && (q.there && price.there)) ≡ false → day_line_held 0 0 ≡ line_held (measure_said line)
      measure-none t = measure-bad (words ∙ t)

      -- a measure's line with an id, p, q and a price is held with all four
      pub measure-is : (p.there && (q.there && price.there)) ≡ true → (id : List ℕ) → id ≡ id_bytes (word_at line 1)
          → record { letter = 77; day = 0; id = id; p = p.value; q = q.value; price = price.value } ≡ line_held (measure_said line)
      unfolding measure_said line_held
      measure-is t id b =
          let (x, rest) = both p.there (q.there && price.there) t in
          let (y, z) = both q.there price.there rest in
          rw (
            eq-eqb (get_or line 0 0) 77 m,
            words ∙
                t,
            b,
            number-value (word_at line 2) p e x,
            number-value (word_at line 3) q g y,
            price-value (word_at line 4) price h z,
          ) refl

-- a line by its words
module _ (line : List ℕ) where
  -- a line of a letter and one more word is read as a letter and a date
  pub two-words : letter_form line 2 ≡ true → line_held (day_said (get_or line 0 0) (date_in (word_at line 1))) ≡ line_held (words_said line)
  unfolding words_said
  two-words e = rw e refl

  -- a line of a letter and four more words is read as a measure
  pub five-words : letter_form line 2 ≡ false → letter_form line 5 ≡ true → line_held (measure_said line) ≡ line_held (words_said line)
  unfolding words_said
  five-words e g = rw (e, g) refl

  -- a line of any other form is bad
  pub no_words : letter_form line 2 ≡ false → letter_form line 5 ≡ false → day_line_held 0 0 ≡ line_held (words_said line)
  unfolding words_said line_held
  no_words e g = rw (e, g) refl

  -- an empty line says nothing
  pub line-empty : length line ≡ 0 → day_line_held 35 0 ≡ line_held (trimmed_said line)
  unfolding trimmed_said line_held
  line-empty e = rw (eq-eqb (length line) 0 e) refl

  module _ (e : length line ≡ 0 → ⊥) where
    -- a line that begins with # says nothing
    pub line-comment : get_or line 0 0 ≡ 35 → day_line_held 35 0 ≡ line_held (trimmed_said line)
    unfolding trimmed_said line_held
    line-comment c = rw (ne_eqb (length line) 0 e, eq-eqb (get_or line 0 0) 35 c) refl

    -- any other line is read by its words
    pub line-words : (get_or line 0 0 ≡ 35 → ⊥) → line_held (words_said line) ≡ line_held (trimmed_said line)
    unfolding trimmed_said
    line-words c = rw (ne_eqb (length line) 0 e, ne_eqb (get_or line 0 0) 35 c) refl
