-- The forms of a line, test by test, as the code asks them; a line of any length.
-- Assumes nothing.
use mathlib.Core.Path.{◌≡◌, refl, sym, ap, ◌∙◌, fun_ext}
use mathlib.Core.Bool.{Bool, true, false, ◌&&◌, ◌||◌, cond, and-true}
use mathlib.Core.List.{List, [], ◌∷◌}
use mathlib.Core.Logic.{◌⊎◌, inl, inr}
use Prim.Native.Nat.{ℕ, ◌≤◌, ◌<◌}
use native.Mathlib.Omega.{arith}
use lib.Dec.{eqb}
use lib.ListN.{length, get_or, take, replicate}
use lib.Seq.{take-length}
use borrow.Author.Tests.{lt-ltb, le-ltb, eq-eqb, ne_eqb}
use Rattle.session_lines.specs.declared.Line.{Line}
use Rattle.session_lines.specs.declared.DateRead.{DateRead}
use Rattle.session_lines.specs.CommandLines.{date_at, empty_line, fed}
use Rattle.session_lines.proofs.LineFeeding.{Fed, fed-holds, held}
use Rattle.file_text_lines.specs.declared.Entry.{Entry}
use Rattle.file_text_lines.specs.declared.NumberRead.{NumberRead}
use Rattle.std.specs.Prelude.{None}
use Rattle.std.proofs.lemmas.Option.{none-some}
use Rattle.file_text_lines.specs.Entries.{CoverRead, cover_kept}
use Rattle.file_records.specs.Records.{three_bytes, four_bytes}
use Rattle.file_write.specs.Writing.{field_bytes}
use Rattle.file_text_lines.specs.Entries.{word_at, word_number, shares_read, part_read, other_entry, id_bytes, letter_form, cover_at, cover_entry, seed_entry}
use Rattle.file_text_lines.specs.Entries.{day_form, day_entry, product_form, line_record, product_entry, entry_at, entry_of, line_entry}

-- no cover is kept where a word is no number
pub kept-none : (r : CoverRead) → None ≡ cover_kept r → r.there ≡ false
kept-none r e = go r.there refl
  where
    go : (b : Bool) → r.there ≡ b → b ≡ false
    go true t = absurd (none-some r.cover (e ∙ rw t refl))
    go false t = refl

-- a cover
module _ (line : List ℕ) where
  -- a line that has not three words, the first of one byte, is no line of a cover
  pub cover-formless : letter_form line 3 ≡ false → other_entry ≡ cover_entry line
  unfolding cover_entry
  cover-formless e = rw e refl

  module _ (e : letter_form line 3 ≡ true) (read : CoverRead) (p : read ≡ cover_at line 1 2) where
    -- a line whose second and third words are not both numbers up to 65,535 is no line of a cover
    pub cover-none : read.there ≡ false → other_entry ≡ cover_entry line
    unfolding cover_entry
    cover-none t = rw (e, ← p, t) refl

    -- a line of three words with two numbers after the letter is the entry with their cover
    pub cover-is : read.there ≡ true → record { letter = 89; cover = read.cover; seed = 0; day = 0; «record» = replicate 32 0 } ≡ cover_entry line
    unfolding cover_entry
    cover-is t = rw (e, ← p, t) refl

-- a seed with a cover
module _ (line : List ℕ) where
  -- a line that has not four words, the first of one byte, is no line of a seed
  pub seed-formless : letter_form line 4 ≡ false → other_entry ≡ seed_entry line
  unfolding seed_entry
  seed-formless e = rw e refl

  module _ (e : letter_form line 4 ≡ true) (seed : NumberRead) (p : seed ≡ word_number (word_at line 1) 4294967295) where
    -- a line whose second word is no number up to 4,294,967,295 is no line of a seed
    pub seed-none : seed.there ≡ false → other_entry ≡ seed_entry line
    unfolding seed_entry
    seed-none t = rw (e, ← p, t) refl

    module _ (t : seed.there ≡ true) (read : CoverRead) (q : read ≡ cover_at line 2 3) where
      -- a line whose third and fourth words are not both numbers up to 65,535 is no line of a seed
      pub seed-coverless : read.there ≡ false → other_entry ≡ seed_entry line
      unfolding seed_entry
      seed-coverless u = rw (e, ← p, t, ← q, u) refl

      -- a line of four words with three numbers after the letter is the entry with their seed and cover
      pub seed-is : read.there ≡ true → record { letter = 83; cover = read.cover; seed = seed.value; day = 0; «record» = replicate 32 0 } ≡ seed_entry line
      unfolding seed_entry
      seed-is u = rw (e, ← p, t, ← q, u) refl

-- a closed day
module _ (f : ℕ → ℕ) (n : ℕ) where
  -- a line that has not 12 characters is no line of a day
  pub day-length : (n ≡ 12 → ⊥) → other_entry ≡ day_entry f n
  unfolding day_entry day_form
  day-length e = rw (ne_eqb n 12 e) refl

  module _ (e : n ≡ 12) where
    -- a line of 12 characters that does not begin with C or X and a space is no line of a day
    pub day-formless : ((eqb (f 0) 67 || eqb (f 0) 88) && eqb (f 1) 32) ≡ false → other_entry ≡ day_entry f n
    unfolding day_entry day_form
    day-formless t = rw (eq-eqb n 12 e, t) refl

    module _ (t : ((eqb (f 0) 67 || eqb (f 0) 88) && eqb (f 1) 32) ≡ true) (r : DateRead) (q : r ≡ date_at f 2) where
      -- a line of C or X and a space, with no date after them, is no line of a day
      pub day-dateless : r.there ≡ false → other_entry ≡ day_entry f n
      unfolding day_entry day_form
      day-dateless u = rw (eq-eqb n 12 e, t, ← q, u) refl

      -- a line of C or X, a space and a date is the entry with its letter and its day
      pub day-is : r.there ≡ true → record { letter = f 0; cover = record { first_year = 0; years = 0 }; seed = 0; day = r.day; «record» = replicate 32 0 }
          ≡ day_entry f n
      unfolding day_entry day_form
      day-is u = rw (eq-eqb n 12 e, t, ← q, u) refl

-- a product: the tests of its line, in the order in which they are asked
abbrev pub product_tests : List ℕ → List Bool
product_tests line = product_form line ∷ (word_number (word_at line 4) 255).there ∷ (shares_read (word_at line 5)).there ∷ (part_read (word_at line 5)).there
    ∷ (word_number (word_at line 6) 65535).there ∷ []

-- whether each of some tests passes
abbrev pub each : List Bool → Bool
each [] = true
each (a ∷ rest) = a && each rest

-- the entry of a product with a record, and the record that a line says
abbrev pub product_with : List ℕ → Entry
product_with r = record { letter = 80; cover = record { first_year = 0; years = 0 }; seed = 0; day = 0; «record» = r }

abbrev pub record_of : List ℕ → List ℕ
record_of line = line_record line (word_number (word_at line 4) 255).value (shares_read (word_at line 5)).value (part_read (word_at line 5)).value
    (word_number (word_at line 6) 65535).value

-- a line with the tests that are left
pub record Asked (line : List ℕ) (left : List Bool) : Type 0 where
  -- the entry is a product's where the tests that are left pass
  pub is : product_entry line ≡ cond (each left) (product_with (record_of line)) other_entry

-- at first all tests are left
pub all_asked : (line : List ℕ) → Asked line (product_tests line)
unfolding product_entry
all_asked line = record { is = rw (and-true (word_number (word_at line 6) 65535).there) }

-- a test that passes leaves the others
pub passed : {line : List ℕ} {t : Bool} {left : List Bool} → Asked line (t ∷ left) → t ≡ true → Asked line left
passed a e = record { is = a.is ∙ rw e }

-- with a test that fails the line is another one
pub failed : {line : List ℕ} {t : Bool} {left : List Bool} → Asked line (t ∷ left) → t ≡ false → other_entry ≡ product_entry line
failed a e = sym (a.is ∙ rw e)

-- the record with the numbers that were read is the line's
pub record_is : (line : List ℕ) {kind shares part tick : NumberRead} → kind ≡ word_number (word_at line 4) 255 → shares ≡ shares_read (word_at line 5)
    → part ≡ part_read (word_at line 5) → tick ≡ word_number (word_at line 6) 65535
    → line_record line kind.value shares.value part.value tick.value ≡ record_of line
record_is line e f g h = rw (e, f, g, h)

-- the record of a line, word by word
pub record-words : (line : List ℕ) (kind shares part tick : ℕ) {a b d e id group market currency : List ℕ}
    → a ≡ word_at line 1 → id ≡ id_bytes a
    → b ≡ word_at line 2 → group ≡ four_bytes b 0
    → d ≡ word_at line 3 → market ≡ four_bytes d 0
    → e ≡ word_at line 7 → currency ≡ three_bytes e 0
    → field_bytes id group market kind shares tick currency part ≡ line_record line kind shares part tick
unfolding line_record field_bytes id_bytes four_bytes three_bytes
record-words line kind shares part tick p id q group r market s currency = rw (id, group, market, currency, p, q, r, s) refl

-- a line by its first byte
module _ (l : Line) where
  -- a line of 64 bytes or more is no line of a list
  pub entry-long : 64 ≤ l.length → other_entry ≡ line_entry l
  unfolding line_entry entry_at
  entry-long h = rw (le-ltb l.length 64 h) refl

  module _ (h : l.length < 64) where
    -- a line that begins with Y is read as the line of a cover
    pub begins-y : get_or l.bytes 0 0 ≡ 89 → cover_entry (take l.length l.bytes) ≡ line_entry l
    unfolding line_entry entry_at
    begins-y e = rw (lt-ltb l.length 64 h, eq-eqb (get_or l.bytes 0 0) 89 e) refl

    module _ (y : get_or l.bytes 0 0 ≡ 89 → ⊥) where
      -- a line that begins with S is read as the line of a seed
      pub begins-s : get_or l.bytes 0 0 ≡ 83 → seed_entry (take l.length l.bytes) ≡ line_entry l
      unfolding line_entry entry_at
      begins-s e = rw (lt-ltb l.length 64 h, ne_eqb (get_or l.bytes 0 0) 89 y, eq-eqb (get_or l.bytes 0 0) 83 e) refl

      module _ (s : get_or l.bytes 0 0 ≡ 83 → ⊥) where
        -- a line that begins with P is read as the line of a product
        pub begins-p : get_or l.bytes 0 0 ≡ 80 → product_entry (take l.length l.bytes) ≡ line_entry l
        unfolding line_entry entry_at
        begins-p e = rw (lt-ltb l.length 64 h, ne_eqb (get_or l.bytes 0 0) 89 y, ne_eqb (get_or l.bytes 0 0) 83 s, eq-eqb (get_or l.bytes 0 0) 80 e) refl

        -- a line that begins with another byte than Y, S and P is read as the line of a day
        pub begins-else : (get_or l.bytes 0 0 ≡ 80 → ⊥) → day_entry (λ i. get_or l.bytes i 0) l.length ≡ line_entry l
        unfolding line_entry entry_at
        begins-else e = rw (lt-ltb l.length 64 h, ne_eqb (get_or l.bytes 0 0) 89 y, ne_eqb (get_or l.bytes 0 0) 83 s, ne_eqb (get_or l.bytes 0 0) 80 e)
            refl

-- a line of 64 bytes or more is no entry
long-entry : (bytes : List ℕ) (n : ℕ) → 64 ≤ n → entry_at bytes n ≡ other_entry
unfolding entry_at
long-entry bytes n h = rw (le-ltb n 64 h) refl

-- the entry of some bytes is that of the same bytes
same-entry : (a b : List ℕ) (n : ℕ) → ((i : ℕ) → get_or a i 0 ≡ get_or b i 0) → take n a ≡ take n b → entry_at a n ≡ entry_at b n
unfolding entry_at
same-entry a b n same e = rw (same 0, e, fun_ext same) refl

-- a line of any length, fed byte by byte to an empty line, is the entry that the definition says
pub any-length : (bytes : List ℕ) → line_entry (fed empty_line bytes) ≡ entry_of bytes
unfolding line_entry entry_of
any-length bytes = go (fed-holds bytes).holds
  where
    l : Line
    l = fed empty_line bytes

    go : Fed l bytes ⊎ ((64 ≤ length bytes) × (l.length ≡ 64)) → entry_at l.bytes l.length ≡ entry_at bytes (length bytes)
    go (inl f) =
        let e : take (length bytes) l.bytes ≡ take (length bytes) bytes =
        ap (λ (n : ℕ). take n l.bytes) (sym f.count) ∙ held l bytes (fed-holds bytes).room f ∙ sym (take-length bytes) in
        ap (entry_at l.bytes) f.count ∙ same-entry l.bytes bytes (length bytes) f.same e
    go (inr f) = long-entry l.bytes l.length (omega (arith, f.1)) ∙ sym (long-entry bytes (length bytes) f.0)
