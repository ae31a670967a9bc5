-- A text of printed lines, read line by line: what each line adds to what is said.
-- Assumes nothing.
use mathlib.Core.Path.{◌≡◌, refl, sym, ap, ◌∙◌}
use mathlib.Core.List.{List, [], ◌∷◌, ◌++◌, append-nil, append_assoc}
use mathlib.Core.Bool.{Bool, true, false}
use Prim.Native.Nat.{ℕ, ◌+◌, ◌≤◌}
use lib.Dec.{eqb}
use lib.ListN.{length}
use borrow.Author.Tests.{le-leb}
use Rattle.calendar.specs.declared.Cover.{Cover}
use Rattle.calendar.specs.declared.Calendar.{Calendar}
use Rattle.calendar.specs.Trading.{in_cover, open_calendar, close_day}
use Rattle.session_lines.specs.CommandLines.{lines_from}
use Rattle.file_text_lines.specs.declared.Entry.{Entry}
use Rattle.file_text_stripped.specs.Said.{line_said}
use Rattle.file_text_read.specs.Lists.{Content, no_content, close_exchange_day, entry_fits, calendar_after_entry, with_record, records_after, next_line, entry_taken}
use Rattle.file_text_read.specs.Lists.{line_taken, lines_taken, numbered_from, numbered_lines, content_of}
use Rattle.delivery_own.proofs.RowBytes.{all_of}
use Rattle.file_text_again.proofs.LinesParted.{in_line, one_line}
use Rattle.file_text_again.proofs.LinesAgain.{cover_read, day_read_as}
use Rattle.file_text_again.proofs.ProductLines.{product_read}

-- a printed line that says an entry
pub record Printed (t : List ℕ) (e : Entry) : Type 0 where
  -- the line without its line feed
  pub line : List ℕ
  -- the text is the line and a line feed
  pub text : t ≡ line ++ (10 ∷ [])
  -- each byte of the line is that of a word or a space
  pub inside : all_of in_line line ≡ true
  -- the line says the entry, whether it is the first line or not
  pub says : (first : Bool) → line_said first line ≡ e

-- a text that is read from what is said before it to what is said after it, whatever follows
pub record Reads (room : ℕ) (t : List ℕ) (c after : Content) : Type 0 where
  -- the number of the last line after the text, by that before it
  pub next : ℕ → ℕ
  -- the lines of the text and whatever follows, read after the one content, are what follows, read after the other
  pub is : (k : ℕ) (rest : List ℕ)
      → lines_taken room c (numbered_from k (lines_from [] (t ++ rest))) ≡ lines_taken room after (numbered_from (next k) (lines_from [] rest))

module _ (room : ℕ) where
  -- an empty text leaves what is said as it is
  pub reads_none : (c : Content) → Reads room [] c c
  reads_none c = record { next = λ k. k; is = λ k rest. refl }

  -- a printed line adds its entry to what is said
  pub reads-line : (t : List ℕ) (e : Entry) (c : Content) → Printed t e → Reads room t c (line_taken room c e)
  unfolding lines_taken numbered_from
  reads-line t e c p =
      record {
        next = next_line;
        is =
            λ k rest.
            let w : t ++ rest ≡ p.line ++ (10 ∷ rest) = ap (λ (x : List ℕ). x ++ rest) p.text ∙ append_assoc p.line (10 ∷ []) rest in
            rw (w, one_line p.line rest p.inside, p.says (eqb k 0)) refl;
      }

  -- two texts, one after the other, are read one after the other
  pub reads_then : {t u : List ℕ} {a b c : Content} → Reads room t a b → Reads room u b c → Reads room (t ++ u) a c
  reads_then {t} {u} {a} p q =
      record {
        next = λ k. q.next (p.next k);
        is =
            λ k rest. ap (λ (x : List ℕ). lines_taken room a (numbered_from k (lines_from [] x))) (append_assoc t u rest) ∙ p.is k (u ++ rest) ∙ q.is
            (p.next k) rest;
      }

  -- a whole text that is read from nothing said to a content says that content
  pub reads_whole : (t : List ℕ) (c : Content) → Reads room t no_content c → content_of room t ≡ c
  unfolding content_of numbered_lines lines_taken numbered_from lines_from
  reads_whole t c p = ap (λ (x : List ℕ). lines_taken room no_content (numbered_from 0 (lines_from [] x))) (sym (append-nil t)) ∙ p.is 0 []

-- what is said: a calendar and records, with no bad line
pub record Says (c : Content) (cal : Calendar) (records : List ℕ) : Type 0 where
  -- the cover is said
  pub begun : c.begun ≡ true
  -- no seed is said
  pub seeded : c.seeded ≡ false
  -- no line is bad
  pub good : c.bad ≡ 0
  -- the calendar that is said
  pub calendar : c.calendar ≡ cal
  -- the records that are said
  pub records-are : c.records ≡ records

module _ (room : ℕ) where
  -- the line of a cover, first of all, says its open calendar and no records
  pub says-cover : (cover : Cover) → Says (line_taken room no_content (cover_read cover)) (open_calendar cover) []
  unfolding line_taken no_content entry_taken entry_fits calendar_after_entry records_after
  says-cover cover = record { begun = refl; seeded = refl; good = refl; calendar = refl; records-are = refl }

  module _ (c : Content) (cal : Calendar) (records : List ℕ) (s : Says c cal records) where
    -- the line of a closed day in the cover closes that day in the calendar
    pub says-closed : (d : ℕ) → in_cover cal.cover d ≡ true → Says (line_taken room c (day_read_as 67 d)) (close_day cal d) records
    unfolding line_taken entry_taken entry_fits calendar_after_entry records_after
    says-closed d h =
        rw (s.good, s.begun, s.seeded, s.calendar, h)
        (record { begun = refl; seeded = refl; good = refl; calendar = refl; records-are = s.records-are })

    -- the line of a day of the second map in the cover closes that day in both maps of the calendar
    pub says-exchange : (d : ℕ) → in_cover cal.cover d ≡ true → Says (line_taken room c (day_read_as 88 d)) (close_exchange_day cal d) records
    unfolding line_taken entry_taken entry_fits calendar_after_entry records_after
    says-exchange d h =
        rw (s.good, s.begun, s.seeded, s.calendar, h)
        (record { begun = refl; seeded = refl; good = refl; calendar = refl; records-are = s.records-are })

    -- the line of a product adds its record to the records, where there is room
    pub says-product : (r : List ℕ) → length records + 32 ≤ room → Says (line_taken room c (product_read r)) cal (records ++ r)
    unfolding line_taken entry_taken entry_fits calendar_after_entry records_after with_record
    says-product r h =
        rw (s.good, s.begun, s.seeded, s.records-are, le-leb (length records + 32) room h)
        (record { begun = refl; seeded = refl; good = refl; calendar = s.calendar; records-are = refl })
