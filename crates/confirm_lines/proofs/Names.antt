-- Lines fed byte by byte, what is read in them, and what they are taken for.
-- Assumes nothing.
use mathlib.Core.Path.{◌≡◌, refl, ◌∙◌, sym, ap}
use mathlib.Core.Bool.{true, false, not, ◌&&◌}
use mathlib.Core.List.{List, [], ◌∷◌, ◌++◌, append_assoc}
use Prim.Native.Nat.{ℕ}
use lib.Dec.{eqb}
use lib.ListN.{length, get_or, take, drop}
use borrow.Author.Tests.{ne_eqb, eq-eqb, not-true, not-false}
use Rattle.days.specs.Dates.{month_of}
use Rattle.table.specs.Table.{open_call, roll_call, close_call}
use Rattle.session_lines.specs.declared.Line.{Line}
use Rattle.session_lines.specs.declared.Command.{Command}
use Rattle.session_lines.specs.CommandLines.{extended, fed, line_command, command_of}
use Rattle.session_lines.proofs.LineFeeding.{any-length, fed-more}
use Rattle.confirm_lines.specs.ListingLines.{roll_begun, date_in, month_in, no_entry, entry_from, month_entry, friday_entry, entry_in, after_call, after_entry}
use Rattle.confirm_lines.specs.ListingLines.{read_first, read_listing_line}
use Rattle.confirm_lines.specs.declared.ListingSoFar.{ListingSoFar}

-- a date after the roll's beginning
pub date-read : (bytes : List ℕ) → line_command (fed roll_begun bytes) ≡ date_in bytes
unfolding roll_begun date_in fed
date-read bytes = any-length (82 ∷ 32 ∷ bytes)

-- a month, with `-01` after it
pub month-read : (bytes : List ℕ) → line_command (extended (extended (extended (fed roll_begun bytes) 45) 48) 49) ≡ month_in bytes
unfolding month_in
month-read bytes =
    ap line_command (ap (λ (l : Line). extended (extended l 48) 49) (sym (fed-more roll_begun bytes 45)) ∙
    ap (λ (l : Line). extended l 49) (sym (fed-more roll_begun (bytes ++ (45 ∷ [])) 48)) ∙ sym (fed-more roll_begun ((bytes ++ (45 ∷ [])) ++ (48 ∷ [])) 49))
    ∙ date-read (((bytes ++ (45 ∷ [])) ++ (48 ∷ [])) ++ (49 ∷ []))
    ∙ ap date_in (append_assoc (bytes ++ (45 ∷ [])) (48 ∷ []) (49 ∷ []) ∙ append_assoc bytes (45 ∷ []) (48 ∷ (49 ∷ [])))

-- a line with a month, test by test
module _ (line : List ℕ) where
  -- a line of another length than 18 is no entry of a month
  pub month-short : (length line ≡ 18 → ⊥) → month_entry line ≡ no_entry
  unfolding month_entry
  month-short h = rw (ne_eqb (length line) 18 h)

  -- a line of length 18 without a space after the month is no entry of a month
  pub month-unspaced : length line ≡ 18 → (get_or line 7 0 ≡ 32 → ⊥) → month_entry line ≡ no_entry
  unfolding month_entry
  month-unspaced h s = rw (eq-eqb (length line) 18 h, ne_eqb (get_or line 7 0) 32 s)

  -- a line of length 18 with a space after the month is the entry that its month and its last day give
  pub month-there : length line ≡ 18 → get_or line 7 0 ≡ 32 → (name last : Command) → name ≡ month_in (take 7 line) → last ≡ date_in (take 10 (drop 8 line))
      → entry_from name.letter (month_of name.day) last ≡ month_entry line
  unfolding month_entry
  month-there h s name last a b = sym (rw (eq-eqb (length line) 18 h, eq-eqb (get_or line 7 0) 32 s) (rw (← a, ← b) refl))

-- and one with a Friday
module _ (line : List ℕ) where
  -- a line of another length than 21 is no entry of a Friday
  pub friday-short : (length line ≡ 21 → ⊥) → friday_entry line ≡ no_entry
  unfolding friday_entry
  friday-short h = rw (ne_eqb (length line) 21 h)

  -- a line of length 21 without a space after the date is no entry of a Friday
  pub friday-unspaced : length line ≡ 21 → (get_or line 10 0 ≡ 32 → ⊥) → friday_entry line ≡ no_entry
  unfolding friday_entry
  friday-unspaced h s = rw (eq-eqb (length line) 21 h, ne_eqb (get_or line 10 0) 32 s)

  -- a line of length 21 with a space after the date is the entry that its Friday and its last day give
  pub friday-there : length line ≡ 21 → get_or line 10 0 ≡ 32 → (name last : Command) → name ≡ date_in (take 10 line) → last ≡ date_in (take 10 (drop 11 line))
      → entry_from name.letter name.day last ≡ friday_entry line
  unfolding friday_entry
  friday-there h s name last a b = sym (rw (eq-eqb (length line) 21 h, eq-eqb (get_or line 10 0) 32 s) (rw (← a, ← b) refl))

-- what a line is taken for, test by test
module _ (file : List ℕ) (s : ListingSoFar) where
  -- a first line that is no O is read as a line without an entry
  pub first-bad : (c : Command) → (c.letter ≡ 79 → ⊥) → read_first file s c ≡ after_entry s no_entry
  unfolding read_first
  first-bad c h = rw (ne_eqb c.letter 79 h)

  -- a first line that is an O opens its product on its day
  pub first-open : (c : Command) → c.letter ≡ 79 → read_first file s c ≡ after_call (open_call file c.id c.day)
  unfolding read_first
  first-open c h = rw (eq-eqb c.letter 79 h)

  module _ (line : List ℕ) (c : Command) (e : c ≡ command_of line) where
    -- before an opening a line is read as the first
    pub line_first : not s.opened ≡ true → read_listing_line file s line ≡ read_first file s c
    unfolding read_listing_line
    line_first o = rw (not-true s.opened o, e)

    module _ (o : not s.opened ≡ false) where
      -- after the opening and before the first entry, a line that is an R rolls the table
      pub line-roll : (not s.begun && eqb c.letter 82) ≡ true → read_listing_line file s line ≡ after_call (roll_call s.table c.day)
      unfolding read_listing_line
      line-roll r = rw (not-false s.opened o, ← e, r)

      module _ (r : (not s.begun && eqb c.letter 82) ≡ false) where
        -- after the opening and before the first entry, a line that is a C closes a day
        pub line-close : (not s.begun && eqb c.letter 67) ≡ true → read_listing_line file s line ≡ after_call (close_call s.table c.day)
        unfolding read_listing_line
        line-close d = rw (not-false s.opened o, ← e, r, d)

        -- any other line after the opening is read as an entry of the product's kind
        pub line-entry : (not s.begun && eqb c.letter 67) ≡ false → read_listing_line file s line ≡ after_entry s (entry_in s.table.product.kind line)
        unfolding read_listing_line
        line-entry d = rw (not-false s.opened o, ← e, r, d)
