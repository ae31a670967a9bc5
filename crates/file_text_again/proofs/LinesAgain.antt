-- Each printed line, read again, is what it was printed from: a cover, a closed day, a product.
-- Assumes nothing.
use mathlib.Core.Path.{◌≡◌, refl, ap, ap₂, ◌∙◌}
use mathlib.Core.List.{List, [], ◌∷◌, ◌++◌, append_assoc}
use mathlib.Core.Bool.{Bool, true, false, ◌&&◌, cond}
use mathlib.Core.Logic.{◌⊎◌, inl, inr}
use Prim.Native.Nat.{ℕ, ◌≤◌, ◌<◌}
use native.Mathlib.Omega.{arith}
use lib.Dec.{eqb}
use lib.ListN.{length, get_or, replicate, length-append}
use lib.Seq.{take-length}
use borrow.Author.Tests.{lt-ltb}
use Rattle.calendar.specs.declared.Cover.{Cover}
use Rattle.session_lines.specs.declared.Command.{Command}
use Rattle.session_lines.specs.declared.DateRead.{DateRead}
use Rattle.session_lines.specs.CommandLines.{date_form, date_at, move_form, move_command, command_at, command_of, other_line}
use Rattle.file_text_lines.specs.declared.Entry.{Entry}
use Rattle.file_text_lines.specs.Entries.{words_from, word_at, letter_form, cover_at, cover_entry, day_form, day_entry, entry_at, entry_of}
use Rattle.session_text.specs.TermsText.{decimal, day_text, spaced}
use Rattle.file_text_print.specs.Contents.{cover_text, marked_text}
use Rattle.file_text_print.proofs.TextLengths.{decimal-short, day-long}
use Rattle.confirm_lines.specs.ListingLines.{date_in}
use Rattle.delivery_own.proofs.RowBytes.{all_of, plain, plain-is, all_more, all_none}
use Rattle.delivery_own.proofs.WordsReadBack.{number-back, number-plain}
use Rattle.delivery_own.proofs.DatesReadBack.{day_read, day-back}
use Rattle.file_text_again.proofs.LinesParted.{word_next, word-last}

-- ---- a cover

-- the line of a cover, without its line feed: Y, the first year and the number of years
abbrev pub cover_line : Cover → List ℕ
cover_line c = 89 ∷ 32 ∷ (decimal c.first_year ++ (32 ∷ decimal c.years))

-- the text of a cover is its line and a line feed
pub cover-text : (c : Cover) → cover_text c ≡ cover_line c ++ (10 ∷ [])
unfolding cover_text spaced
cover-text c = simp append_assoc

-- what the line of a cover says: the letter Y and the cover
abbrev pub cover_read : Cover → Entry
cover_read c = record { letter = 89; cover = c; seed = 0; day = 0; «record» = replicate 32 0 }

letter-plain : (c : ℕ) → 45 ≤ c → (c ≡ 59 → ⊥) → all_of plain (c ∷ []) ≡ true
letter-plain c h n = all_more plain c [] (plain-is c h n) (all_none plain)

module _ (c : Cover) (a : c.first_year ≤ 65535) (b : c.years ≤ 65535) where
  cover-words : words_from [] (cover_line c) ≡ (89 ∷ []) ∷ decimal c.first_year ∷ decimal c.years ∷ []
  cover-words =
      word_next (89 ∷ []) (decimal c.first_year ++ (32 ∷ decimal c.years)) (letter-plain 89 (omega arith) (λ q. omega arith))
      ∙ ap (λ (ws : List (List ℕ)). (89 ∷ []) ∷ ws)
      (word_next (decimal c.first_year) (decimal c.years) (number-plain c.first_year a)
      ∙ ap (λ (ws : List (List ℕ)). decimal c.first_year ∷ ws) (word-last (decimal c.years) (number-plain c.years b)))

  cover-short : length (cover_line c) < 64
  cover-short =
      omega (arith, length-append (decimal c.first_year) (32 ∷ decimal c.years), decimal-short c.first_year, decimal-short c.years)

  cover-entry : cover_entry (cover_line c) ≡ cover_read c
  unfolding cover_entry letter_form cover_at word_at
  cover-entry = rw (cover-words, number-back c.first_year a, number-back c.years b) refl

  -- the line of a cover with numbers of 16 bits, read again, says that cover
  pub cover-back : entry_of (cover_line c) ≡ cover_read c
  unfolding entry_of entry_at
  cover-back = rw (lt-ltb (length (cover_line c)) 64 cover-short) (ap cover_entry (take-length (cover_line c)) ∙ cover-entry)

-- ---- a closed day

-- the line of a day, without its line feed: a letter and the date
abbrev pub day_line_of : ℕ → ℕ → List ℕ
day_line_of letter d = letter ∷ 32 ∷ day_text d

-- the text of a marked day is its line and a line feed
pub day-text : (letter d : ℕ) → marked_text letter d ≡ day_line_of letter d ++ (10 ∷ [])
unfolding marked_text
day-text letter d = refl

-- what the line of a day says: its letter and the day
abbrev pub day_read_as : ℕ → ℕ → Entry
day_read_as letter d = record { letter = letter; cover = record { first_year = 0; years = 0 }; seed = 0; day = d; «record» = replicate 32 0 }

abbrev mk : Bool → ℕ → DateRead
mk there day = record { there = there; day = day }

-- the date of a roll's line is the date of a closed day's
module _ (w : List ℕ) where
  same-date : (letter : ℕ) → date_at (λ i. get_or (letter ∷ 32 ∷ w) i 0) 2 ≡ date_at (λ i. get_or (82 ∷ 32 ∷ w) i 0) 2
  unfolding date_at date_form
  same-date letter = refl

  date-there : (d : ℕ) → date_in w ≡ day_read d → date_at (λ i. get_or (82 ∷ 32 ∷ w) i 0) 2 ≡ record { there = true; day = d }
  unfolding date_in command_of command_at move_command move_form
  date-there d e = go (date_at (λ i. get_or (82 ∷ 32 ∷ w) i 0) 2) (eqb (length (82 ∷ 32 ∷ w)) 12) e
    where
      go : (r : DateRead) (b : Bool)
          → cond {A = Command} ((b && true) && r.there) (record { letter = 82; id = replicate 4 0; day = r.day }) other_line ≡ day_read d → r
          ≡ record { there = true; day = d }
      go r true q = side r.there refl q
        where
          side : (t : Bool) → r.there ≡ t → cond {A = Command} t (record { letter = 82; id = replicate 4 0; day = r.day }) other_line ≡ day_read d
              → r ≡ record { there = true; day = d }
          side true s q = ap₂ (λ (x : Bool) (y : ℕ). mk x y) s (ap (λ (x : Command). x.day) q)
          side false s q = let z : ◌≡◌ {A = ℕ} 0 82 = ap (λ (x : Command). x.letter) q in absurd (omega arith)
      go r false q = let z : ◌≡◌ {A = ℕ} 0 82 = ap (λ (x : Command). x.letter) q in absurd (omega arith)

-- the line of a day below 36525 with the letter C or X, read again, says that letter and day
pub day-entry-back : (letter d : ℕ) → (letter ≡ 67) ⊎ (letter ≡ 88) → d < 36525 → entry_of (day_line_of letter d) ≡ day_read_as letter d
unfolding entry_of entry_at day_entry day_form
day-entry-back letter d (inl e) h = rw (day-long d, same-date (day_text d) letter, date-there (day_text d) d (day-back d h), e) refl
day-entry-back letter d (inr e) h = rw (day-long d, same-date (day_text d) letter, date-there (day_text d) d (day-back d h), e) refl
