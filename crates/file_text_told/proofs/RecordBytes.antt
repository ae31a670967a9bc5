-- The record of what a line says has 32 bytes, zeros where it names no product.
-- Assumes nothing.
use mathlib.Core.Path.{◌≡◌, refl}
use mathlib.Core.Bool.{Bool, true, false, ◌&&◌, cond}
use mathlib.Core.List.{List}
use Prim.Native.Nat.{ℕ}
use lib.Dec.{eqb, ltb}
use lib.ListN.{length, get_or, take, replicate, length-replicate}
use Rattle.file_records.specs.Records.{three_bytes, four_bytes}
use Rattle.file_write.specs.Writing.{field_bytes}
use Rattle.delivery_lines.specs.NoticeLines.{says_nothing, trimmed}
use Rattle.file_text_lines.specs.declared.Entry.{Entry}
use Rattle.session_lines.specs.CommandLines.{date_at}
use Rattle.file_text_lines.specs.declared.NumberRead.{NumberRead}
use Rattle.file_text_lines.specs.Entries.{word_at, word_number, shares_read, part_read, other_entry, letter_form, cover_at, cover_entry, seed_entry, day_form, day_entry}
use Rattle.file_text_lines.specs.Entries.{product_form, line_record, product_entry, entry_at, entry_of}
use Rattle.file_text_stripped.specs.Said.{nothing_entry, text_said, bare_text, line_said}

zeros : length (replicate {A = ℕ} 32 0) ≡ 32
zeros = length-replicate {A = ℕ} 32 0

module _ (line : List ℕ) where
  cover-long : length (cover_entry line).«record» ≡ 32
  unfolding cover_entry
  cover-long = go (letter_form line 3 && (cover_at line 1 2).there)
    where
      of-years : Entry
      of-years = record { letter = 89; cover = (cover_at line 1 2).cover; seed = 0; day = 0; «record» = replicate 32 0 }

      go : (b : Bool) → length (cond b of-years other_entry).«record» ≡ 32
      go true = zeros
      go false = zeros

  abbrev seed : NumberRead
  seed = word_number (word_at line 1) 4294967295

  seed-long : length (seed_entry line).«record» ≡ 32
  unfolding seed_entry
  seed-long = go (letter_form line 4 && (seed.there && (cover_at line 2 3).there))
    where
      of-seed : Entry
      of-seed = record { letter = 83; cover = (cover_at line 2 3).cover; seed = seed.value; day = 0; «record» = replicate 32 0 }

      go : (b : Bool) → length (cond b of-seed other_entry).«record» ≡ 32
      go true = zeros
      go false = zeros

  bytes-long : (kind shares part tick : ℕ) → length (line_record line kind shares part tick) ≡ 32
  unfolding line_record field_bytes four_bytes three_bytes
  bytes-long kind shares part tick = refl

  abbrev kind : NumberRead
  kind = word_number (word_at line 4) 255

  abbrev shares : NumberRead
  shares = shares_read (word_at line 5)

  abbrev part : NumberRead
  part = part_read (word_at line 5)

  abbrev tick : NumberRead
  tick = word_number (word_at line 6) 65535

  abbrev product : Entry
  product =
      record {
        letter = 80;
        cover = record { first_year = 0; years = 0 };
        seed = 0;
        day = 0;
        «record» = line_record line kind.value shares.value part.value tick.value;
      }

  product-long : length (product_entry line).«record» ≡ 32
  unfolding product_entry
  product-long = go (product_form line && (kind.there && (shares.there && (part.there && tick.there))))
    where
      go : (b : Bool) → length (cond b product other_entry).«record» ≡ 32
      go true = bytes-long kind.value shares.value part.value tick.value
      go false = zeros

day-entry-long : (f : ℕ → ℕ) (n : ℕ) → length (day_entry f n).«record» ≡ 32
unfolding day_entry
day-entry-long f n = go (day_form f n && (date_at f 2).there)
  where
    of-day : Entry
    of-day = record { letter = f 0; cover = record { first_year = 0; years = 0 }; seed = 0; day = (date_at f 2).day; «record» = replicate 32 0 }

    go : (b : Bool) → length (cond b of-day other_entry).«record» ≡ 32
    go true = zeros
    go false = zeros

entry-long : (line : List ℕ) → length (entry_of line).«record» ≡ 32
unfolding entry_of entry_at
entry-long line = go (ltb (length line) 64) (eqb (get_or line 0 0) 89) (eqb (get_or line 0 0) 83) (eqb (get_or line 0 0) 80)
  where
    t : List ℕ
    t = take (length line) line

    f : ℕ → ℕ
    f i = get_or line i 0

    go : (a b c d : Bool)
        → length (cond a (cond b (cover_entry t) (cond c (seed_entry t) (cond d (product_entry t) (day_entry f (length line))))) other_entry).«record» ≡ 32
    go false b c d = zeros
    go true true c d = cover-long t
    go true false true d = seed-long t
    go true false false true = product-long t
    go true false false false = day-entry-long f (length line)

-- the record of what a line says has 32 bytes
pub said-long : (first : Bool) (line : List ℕ) → length (line_said first line).«record» ≡ 32
unfolding line_said text_said
said-long first line = go (says_nothing (bare_text first (trimmed line)))
  where
    go : (b : Bool) → length (cond b nothing_entry (entry_of (bare_text first (trimmed line)))).«record» ≡ 32
    go true = zeros
    go false = entry-long (bare_text first (trimmed line))
