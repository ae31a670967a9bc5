-- A line of a list, from which `compose` makes a master file, as an entry
-- (docs/OPERATIONS.md, The text of a master file, from which the quotations are; 02, notes 7, 11 and 14).
-- Assumes nothing.
use Rattle.std.specs.Prelude.{ℕ, ◌+◌, ◌-◌, ◌*◌, Bool, true, false, ◌&&◌, ◌||◌, cond, List, [], ◌∷◌, ◌++◌, leb, ltb, eqb, get_or, length, take, drop, replicate, Option, Some, None}
use Rattle.product.specs.Fields.{digit}
use Rattle.file_write.specs.Writing.{field_bytes}
use Rattle.session_lines.specs.declared.Line.{Line}
use Rattle.session_lines.specs.CommandLines.{digit_value, date_at}
use Rattle.file_text_lines.specs.declared.NumberRead.{NumberRead}
use Rattle.calendar.specs.declared.Cover.{Cover}
use Rattle.file_text_lines.specs.declared.Entry.{Entry}

-- 'Single spaces part the words of a line' (a space is 32):
-- its words, after a word that has begun with some bytes. Between two spaces stands a word of no bytes
unfoldable pub words_from : List ℕ → List ℕ → List (List ℕ)
words_from begun [] = begun ∷ []
words_from begun (byte ∷ rest) = cond (eqb byte 32) (begun ∷ words_from [] rest) (words_from (begun ++ (byte ∷ [])) rest)

-- the words of a line
abbrev pub words_of : List ℕ → List (List ℕ)
words_of line = words_from [] line

-- word k of a line, from 0; no bytes where there is none
unfoldable pub word_at : List ℕ → ℕ → List ℕ
word_at line k = get_or (words_of line) k []

-- no number
abbrev pub no_number : NumberRead
no_number = record { there = false; value = 0 }

-- 'A number is one or more digits', and each has a most:
-- the number of the digits so far and of the bytes that follow; none where a byte is no digit, or where it passes the most
unfoldable pub number_from : ℕ → ℕ → List ℕ → NumberRead
number_from most value [] = record { there = true; value = value }
number_from most value (byte ∷ rest) =
    cond (digit byte && leb (10 * value + digit_value byte) most) (number_from most (10 * value + digit_value byte) rest) no_number

-- the number that a word is
unfoldable pub word_number : List ℕ → ℕ → NumberRead
word_number word most = cond (eqb (length word) 0) no_number (number_from most 0 word)

-- a size is 'a number, perhaps with a point and four digits after it':
-- a point, 46, stands before the word's last four bytes
unfoldable pub pointed : List ℕ → Bool
pointed word = leb 5 (length word) && eqb (get_or word (length word - 5) 0) 46

-- the shares of a size, 'at most 65,535'
unfoldable pub shares_read : List ℕ → NumberRead
shares_read word = word_number (cond (pointed word) (take (length word - 5) word) word) 65535

-- its ten-thousandths of a share; 0 where it has no point
unfoldable pub part_read : List ℕ → NumberRead
part_read word = cond (pointed word) (word_number (drop (length word - 4) word) 9999) (record { there = true; value = 0 })

-- another line: no letter, and zeros
abbrev pub other_entry : Entry
other_entry = record { letter = 0; cover = record { first_year = 0; years = 0 }; seed = 0; day = 0; «record» = replicate 32 0 }

-- so many words, the letter among them, and the first of them has one byte; which letter it is, `entry_at` asks
unfoldable pub letter_form : List ℕ → ℕ → Bool
letter_form line words = eqb (length (words_of line)) words && eqb (length (word_at line 0)) 1

-- whether two words are a cover's numbers, and its cover
pub record CoverRead : Type 0 where
  pub there : Bool
  pub cover : Cover

-- 'a year, a number of years .. are at most 65,535':
-- the cover whose first year is word k and whose number of years is word m, where both are numbers. Whether it is right is question 4
unfoldable pub cover_at : List ℕ → ℕ → ℕ → CoverRead
cover_at line k m =
    let first = word_number (word_at line k) 65535 in
    let years = word_number (word_at line m) 65535 in
    record { there = first.there && years.there; cover = record { first_year = first.value; years = years.value } }

-- the cover, where both are numbers
abbrev pub cover_kept : CoverRead → Option Cover
cover_kept r = cond r.there (Some r.cover) None

-- '`Y first years`':
-- the entry of a line whose letter is Y, 89
unfoldable pub cover_entry : List ℕ → Entry
cover_entry line =
    let read = cover_at line 1 2 in
    cond (letter_form line 3 && read.there)
    (record { letter = 89; cover = read.cover; seed = 0; day = 0; «record» = replicate 32 0 })
    other_entry

-- '`S seed first years`'; 'a seed at most 4,294,967,295':
-- the entry of a line whose letter is S, 83
unfoldable pub seed_entry : List ℕ → Entry
seed_entry line =
    let seed = word_number (word_at line 1) 4294967295 in
    let read = cover_at line 2 3 in
    cond (letter_form line 4 && (seed.there && read.there))
    (record { letter = 83; cover = read.cover; seed = seed.value; day = 0; «record» = replicate 32 0 })
    other_entry

-- '`C date`', '`X date`':
-- the letter C, 67, or X, 88, a space, 32, and a date, 12 characters in all
unfoldable pub day_form : (ℕ → ℕ) → ℕ → Bool
day_form line n = eqb n 12 && ((eqb (line 0) 67 || eqb (line 0) 88) && eqb (line 1) 32)

-- the entry of such a line
unfoldable pub day_entry : (ℕ → ℕ) → ℕ → Entry
day_entry line n =
    let date = date_at line 2 in
    cond (day_form line n && date.there)
    (record { letter = line 0; cover = record { first_year = 0; years = 0 }; seed = 0; day = date.day; «record» = replicate 32 0 })
    other_entry

-- '`P id group market kind size tick currency`'; 'an id has 1 to 4 characters, a group and a market 4, a currency 3':
-- eight words
unfoldable pub product_form : List ℕ → Bool
product_form line =
    letter_form line 8
    && (leb 1 (length (word_at line 1))
    && (leb (length (word_at line 1)) 4
    && (eqb (length (word_at line 2)) 4 && (eqb (length (word_at line 3)) 4 && eqb (length (word_at line 7)) 3))))

-- '0–3 product id, 1 to 4 of A–Z and 0–9, then spaces' (01, Master file):
-- the four bytes of an id
unfoldable pub id_bytes : List ℕ → List ℕ
id_bytes id = get_or id 0 32 ∷ get_or id 1 32 ∷ get_or id 2 32 ∷ get_or id 3 32 ∷ []

-- the record of a line of that form, with its numbers
unfoldable pub line_record : List ℕ → ℕ → ℕ → ℕ → ℕ → List ℕ
line_record line kind shares part tick =
    field_bytes (id_bytes (word_at line 1)) (word_at line 2) (word_at line 3) kind shares tick (word_at line 7) part

-- 'a size's shares and a tick are at most 65,535, a kind is at most 255':
-- the entry of such a line, whose letter is P, 80
unfoldable pub product_entry : List ℕ → Entry
product_entry line =
    let kind = word_number (word_at line 4) 255 in
    let shares = shares_read (word_at line 5) in
    let part = part_read (word_at line 5) in
    let tick = word_number (word_at line 6) 65535 in
    cond (product_form line && (kind.there && (shares.there && (part.there && tick.there))))
    (record {
      letter = 80;
      cover = record { first_year = 0; years = 0 };
      seed = 0;
      day = 0;
      «record» = line_record line kind.value shares.value part.value tick.value;
    })
    other_entry

-- 'no line has more than 63 characters':
-- the entry of the first n of some bytes, by its letter: Y, 89, S, 83, P, 80, or C or X
unfoldable pub entry_at : List ℕ → ℕ → Entry
entry_at bytes n =
    cond (ltb n 64)
    (cond (eqb (get_or bytes 0 0) 89) (cover_entry (take n bytes))
    (cond (eqb (get_or bytes 0 0) 83) (seed_entry (take n bytes))
    (cond (eqb (get_or bytes 0 0) 80) (product_entry (take n bytes)) (day_entry (λ i. get_or bytes i 0) n))))
    other_entry

-- the entry of a line of any length
unfoldable pub entry_of : List ℕ → Entry
entry_of line = entry_at line (length line)

-- the entry of a line as the program holds it: its first 64 bytes and its length, at most 64
unfoldable pub line_entry : Line → Entry
line_entry l = entry_at l.bytes l.length
