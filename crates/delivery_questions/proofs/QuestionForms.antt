-- What a line asks, question by question, as the code holds it.
-- Assumes nothing.
use mathlib.Core.Path.{◌≡◌, refl, ◌∙◌, sym}
use mathlib.Core.Bool.{Bool, true, false, ◌&&◌, cond}
use mathlib.Core.List.{List}
use Prim.Native.Nat.{ℕ, ◌≤◌, ◌<◌}
use lib.Dec.{eqb}
use lib.ListN.{length, get_or}
use borrow.Author.Tests.{le-leb, lt-leb, eq-eqb, ne_eqb}
use Rattle.questions.proofs.Bools.{both}
use Rattle.days.specs.Dates.{month_of}
use Rattle.session_lines.specs.declared.Command.{Command}
use Rattle.file_text_lines.specs.declared.NumberRead.{NumberRead}
use Rattle.file_text_lines.specs.Entries.{words_of, word_at, id_bytes}
use Rattle.confirm_lines.specs.ListingLines.{date_in, month_in}
use Rattle.delivery_lines.specs.NoticeLines.{is_number, is_price, is_id, number_held, price_held}
use Rattle.delivery_lines.proofs.NoticeValues.{number-there, number-value, priced, price-value}
use Rattle.delivery_questions.specs.QuestionLines.{last_word, due_word, tick_word, cash_word, size_word, is_word, last_asked, due_asked, tick_asked, three_asked}
use Rattle.delivery_questions.specs.QuestionLines.{cash_asked, size_asked, words_asked, trimmed_asked, bare_held, one_held, day_question_held, asked_held, bad}
use Rattle.delivery_questions.specs.QuestionLines.{asks, last, due}

-- a date
module _ (letter : ℕ) (id : List ℕ) (friday : Bool) (date : Command) where
  -- a question with a day, of a date that is none, is held as a bad line
  pub day-none : date.letter ≡ 0 → bare_held 0 ≡ day_question_held letter id friday date
  unfolding day_question_held
  day-none e = rw (eq-eqb date.letter 0 e) refl

  -- a question with a day, of a date that is one, is held with its day
  pub day-some : (date.letter ≡ 0 → ⊥) → one_held letter id friday date.day 0 ≡ day_question_held letter id friday date
  unfolding day_question_held
  day-some e = rw (ne_eqb date.letter 0 e) refl

last-held : (b : Bool) (id : List ℕ) (day : ℕ) → cond b (bare_held 0) (one_held 108 id true day 0) ≡ asked_held (cond b bad (asks id (last true day)))
unfolding asked_held
last-held true id day = refl
last-held false id day = refl

due-held : (b : Bool) (id : List ℕ) (day : ℕ) → cond b (bare_held 0) (one_held 100 id false day 0) ≡ asked_held (cond b bad (asks id (due day)))
unfolding asked_held
due-held true id day = refl
due-held false id day = refl

module _ (id word : List ℕ) where
  -- `last` with other than 7 characters is held as a question for the date of a Friday, or as a bad line where it is no date
  pub last-friday : (length word ≡ 7 → ⊥) → day_question_held 108 id true (date_in word) ≡ asked_held (last_asked id word)
  unfolding day_question_held last_asked
  last-friday e = rw (ne_eqb (length word) 7 e) (last-held (eqb (date_in word).letter 0) id (date_in word).day)

  -- `last` with 7 characters that are no month is held as a bad line
  pub last_none : length word ≡ 7 → (month_in word).letter ≡ 0 → bare_held 0 ≡ asked_held (last_asked id word)
  unfolding last_asked asked_held
  last_none e m = rw (eq-eqb (length word) 7 e, eq-eqb (month_in word).letter 0 m) refl

  -- `last` with 7 characters that are a month is held with the key of that month
  pub last-month : length word ≡ 7 → (first : Command) → first ≡ month_in word → (first.letter ≡ 0 → ⊥) → (key : ℕ) → key ≡ month_of first.day
      → one_held 108 id false key 0 ≡ asked_held (last_asked id word)
  unfolding last_asked asked_held
  last-month e first q m key k = rw (eq-eqb (length word) 7 e, ← q, ne_eqb first.letter 0 m, ← k) refl

  -- `due` is held with the day of its date, or as a bad line where that is none
  pub due-day : day_question_held 100 id false (date_in word) ≡ asked_held (due_asked id word)
  unfolding day_question_held due_asked
  due-day = due-held (eqb (date_in word).letter 0) id (date_in word).day

  module _ (price : NumberRead) (e : price ≡ price_held word) where
    -- `tick` with a word that is no price is held as a bad line
    pub tick-none : price.there ≡ false → bare_held 0 ≡ asked_held (tick_asked id word)
    unfolding tick_asked asked_held
    tick-none t = rw (sym (priced word price e) ∙ t) refl

    -- `tick` with a price is held with the price as it is read
    pub tick-some : price.there ≡ true → one_held 116 id false 0 price.value ≡ asked_held (tick_asked id word)
    unfolding tick_asked asked_held
    tick-some t = rw (sym (priced word price e) ∙ t, price-value word price e t) refl

-- three words
module _ (id name word : List ℕ) where
  -- three words with the name `last` ask for a last trading day
  pub three-last : is_word last_word name ≡ true → asked_held (last_asked id word) ≡ asked_held (three_asked id name word)
  unfolding three_asked
  three-last e = rw e refl

  -- three words with the name `due` ask for a due day
  pub three-due : is_word last_word name ≡ false → is_word due_word name ≡ true → asked_held (due_asked id word) ≡ asked_held (three_asked id name word)
  unfolding three_asked
  three-due e g = rw (e, g) refl

  -- three words with the name `tick` ask whether a price passes
  pub three-tick : is_word last_word name ≡ false → is_word due_word name ≡ false → is_word tick_word name ≡ true
      → asked_held (tick_asked id word) ≡ asked_held (three_asked id name word)
  unfolding three_asked
  three-tick e g h = rw (e, g, h) refl

  -- three words with another name are a bad line
  pub three-none : is_word last_word name ≡ false → is_word due_word name ≡ false → is_word tick_word name ≡ false → bare_held 0 ≡ asked_held (three_asked id name word)
  unfolding three_asked asked_held
  three-none e g h = rw (e, g, h) refl

-- five words
module _ (id name contracts agreed final : List ℕ) where
  -- five words with another name than `cash` are a bad line
  pub cash-nameless : is_word cash_word name ≡ false → bare_held 0 ≡ asked_held (cash_asked id name contracts agreed final)
  unfolding cash_asked asked_held
  cash-nameless e = rw e refl

  module _ (n : is_word cash_word name ≡ true) (c a f : NumberRead) (e : c ≡ number_held contracts) (g : a ≡ price_held agreed) (h : f ≡ price_held final) where
    words : (is_number contracts && (is_price agreed && is_price final)) ≡ (c.there && (a.there && f.there))
    words = rw (number-there contracts c e, priced agreed a g, priced final f h) refl

    -- `cash` without a number of contracts and two prices is held as a bad line
    pub cash-none : (c.there && (a.there && f.there)) ≡ false → bare_held 0 ≡ asked_held (cash_asked id name contracts agreed final)
    unfolding cash_asked asked_held
    cash-none t = rw (n, words ∙ t) refl

    -- `cash` with a number of contracts and two prices is held with the three as they are read
    pub cash-is : (c.there && (a.there && f.there)) ≡ true
        → record { letter = 99; id = id; friday = false; day = 0; number = c.value; agreed = a.value; final_price = f.value }
        ≡ asked_held (cash_asked id name contracts agreed final)
    unfolding cash_asked asked_held
    cash-is t =
        let (x, rest) = both c.there (a.there && f.there) t in
        let (y, z) = both a.there f.there rest in
        rw (n, words ∙ t, number-value contracts c e x, price-value agreed a g y, price-value final f h z) refl

module _ (id name : List ℕ) where
  -- two words with another name than `size` are held as a bad line
  pub size_none : is_word size_word name ≡ false → bare_held 0 ≡ asked_held (size_asked id name)
  unfolding size_asked asked_held
  size_none e = rw e refl

  -- two words with the name `size` are held as a question for the size
  pub size_is : is_word size_word name ≡ true → one_held 115 id false 0 0 ≡ asked_held (size_asked id name)
  unfolding size_asked asked_held
  size_is e = rw e refl

-- a line by its words
module _ (line : List ℕ) where
  -- a line whose first word is no id is held as a bad line
  pub idless : is_id (word_at line 0) ≡ false → bare_held 0 ≡ asked_held (words_asked line)
  unfolding words_asked asked_held
  idless e = rw e refl

  module _ (i : is_id (word_at line 0) ≡ true) where
    -- a line of an id and one more word asks for the size, or is bad, by that word
    pub two-words : length (words_of line) ≡ 2 → asked_held (size_asked (id_bytes (word_at line 0)) (word_at line 1)) ≡ asked_held (words_asked line)
    unfolding words_asked
    two-words e = rw (i, eq-eqb (length (words_of line)) 2 e) refl

    module _ (n : length (words_of line) ≡ 2 → ⊥) where
      -- a line of three words asks what its name and its third word ask
      pub three-words : length (words_of line) ≡ 3
          → asked_held (three_asked (id_bytes (word_at line 0)) (word_at line 1) (word_at line 2)) ≡ asked_held (words_asked line)
      unfolding words_asked
      three-words e = rw (i, ne_eqb (length (words_of line)) 2 n, eq-eqb (length (words_of line)) 3 e) refl

      module _ (m : length (words_of line) ≡ 3 → ⊥) where
        -- a line of five words asks what `cash` asks with its last three words
        pub five-words : length (words_of line) ≡ 5
            → asked_held (cash_asked (id_bytes (word_at line 0)) (word_at line 1) (word_at line 2) (word_at line 3) (word_at line 4)) ≡ asked_held (words_asked line)
        unfolding words_asked
        five-words e = rw (i, ne_eqb (length (words_of line)) 2 n, ne_eqb (length (words_of line)) 3 m, eq-eqb (length (words_of line)) 5 e) refl

        -- a line of other than two, three or five words is held as a bad line
        pub no_words : (length (words_of line) ≡ 5 → ⊥) → bare_held 0 ≡ asked_held (words_asked line)
        unfolding words_asked asked_held
        no_words e = rw (i, ne_eqb (length (words_of line)) 2 n, ne_eqb (length (words_of line)) 3 m, ne_eqb (length (words_of line)) 5 e) refl

  -- an empty line is held as one that asks nothing
  pub line-empty : length line ≡ 0 → bare_held 35 ≡ asked_held (trimmed_asked line)
  unfolding trimmed_asked asked_held
  line-empty e = rw (eq-eqb (length line) 0 e) refl

  module _ (e : length line ≡ 0 → ⊥) where
    -- a line that begins with # is held as one that asks nothing
    pub line-comment : get_or line 0 0 ≡ 35 → bare_held 35 ≡ asked_held (trimmed_asked line)
    unfolding trimmed_asked asked_held
    line-comment c = rw (ne_eqb (length line) 0 e, eq-eqb (get_or line 0 0) 35 c) refl

    module _ (c : get_or line 0 0 ≡ 35 → ⊥) where
      -- a line of more than 255 bytes that is no comment is held as a bad line
      pub line-long : 255 < length line → bare_held 0 ≡ asked_held (trimmed_asked line)
      unfolding trimmed_asked asked_held
      line-long h = rw (ne_eqb (length line) 0 e, ne_eqb (get_or line 0 0) 35 c, lt-leb (length line) 255 h) refl

      -- a line of at most 255 bytes that is no comment asks what its words ask
      pub line-words : length line ≤ 255 → asked_held (words_asked line) ≡ asked_held (trimmed_asked line)
      unfolding trimmed_asked
      line-words h = rw (ne_eqb (length line) 0 e, ne_eqb (get_or line 0 0) 35 c, le-leb (length line) 255 h) refl
