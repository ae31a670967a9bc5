-- A line of `notices.txt`, the text of what the exchange and the calendar brought since the opening, and what it says
-- (docs/DELIVERY.md, Form, from which the quotations are).
-- Assumes nothing.
use Rattle.std.specs.Prelude.{ℕ, ◌+◌, ◌-◌, ◌*◌, Bool, true, ◌&&◌, ◌||◌, cond, List, [], ◌∷◌, leb, eqb, get_or, length, take, drop}
use Rattle.questions.specs.Search.{every}
use Rattle.product.specs.Fields.{digit, id_character}
use Rattle.history.specs.Book.{Call, roll, close, reopen, measure}
use Rattle.session_lines.specs.declared.Command.{Command}
use Rattle.session_lines.specs.CommandLines.{digit_value, no_id}
use Rattle.file_text_lines.specs.declared.NumberRead.{NumberRead}
use Rattle.file_text_lines.specs.Entries.{word_at, no_number, pointed, part_read, letter_form, id_bytes}
use Rattle.confirm_lines.specs.ListingLines.{date_in}
use Rattle.delivery_lines.specs.declared.NoticeLine.{NoticeLine}

-- 'Spaces, tabs and carriage returns':
-- 32, 9 and 13
abbrev pub blank : ℕ → Bool
blank byte = eqb byte 32 || (eqb byte 9 || eqb byte 13)

-- '.. at its end play no part':
-- a line without them
unfoldable pub trimmed : List ℕ → List ℕ
trimmed [] = []
trimmed (byte ∷ rest) = cond (blank byte && eqb (length (trimmed rest)) 0) [] (byte ∷ trimmed rest)

-- 'nor does one byte order mark before the first line':
-- how many bytes of a text are one, 239, 187 and 191 at its start
unfoldable pub mark_length : List ℕ → ℕ
mark_length text = cond (eqb (get_or text 0 0) 239 && (eqb (get_or text 1 0) 187 && eqb (get_or text 2 0) 191)) 3 0

-- a text without the mark
unfoldable pub unmarked : List ℕ → List ℕ
unmarked text = drop (mark_length text) text

-- every byte is a digit
unfoldable pub all_digits : List ℕ → Bool
all_digits [] = true
all_digits (byte ∷ rest) = digit byte && all_digits rest

-- 'Numbers .. are one or more digits of any length, zeros in front allowed'
unfoldable pub is_number : List ℕ → Bool
is_number word = leb 1 (length word) && all_digits word

-- the number of some digits, after the number of those before them
unfoldable pub value_from : ℕ → List ℕ → ℕ
value_from value [] = value
value_from value (byte ∷ rest) = value_from (10 * value + digit_value byte) rest

-- 'never cut':
-- the number that a word is, however large
unfoldable pub value_of : List ℕ → ℕ
value_of word = value_from 0 word

-- 'a point and exactly four digits':
-- the word before them; all of a word without them
unfoldable pub whole_word : List ℕ → List ℕ
whole_word word = cond (pointed word) (take (length word - 5) word) word

-- 'A price is a number, perhaps with a point and exactly four digits'
unfoldable pub is_price : List ℕ → Bool
is_price word = is_number (whole_word word) && (part_read word).there

-- the price that a word is, in 1/10,000 of the currency
unfoldable pub price_of : List ℕ → ℕ
price_of word = 10000 * value_of (whole_word word) + (part_read word).value

-- 'ids as in `terms`': 'An id is 1 to 4 characters as in a record' (01)
unfoldable pub is_id : List ℕ → Bool
is_id word = leb 1 (length word) && (leb (length word) 4 && every (length word) (λ i. id_character (get_or word i 0)))

-- what a line says: nothing; the opening of every product on a date; a call, with the id of a measure's product, four zeros of the other calls; or it is bad
pub data Said : Type 0 where
  nothing bad : Said
  opening : ℕ → Said
  notice : Call → List ℕ → Said

-- 'O 2008-03-20', 'R 2008-03-21', 'C 2008-04-18', 'E 2008-04-18'; 'Dates .. as in `terms`; a date that 23 refuses makes another line':
-- the letter, 79, 82, 67 or 69, and the date; the calls on every table name no product
unfoldable pub day_said : ℕ → Command → Said
day_said letter date =
    cond (eqb date.letter 0) bad
    (cond (eqb letter 79) (opening date.day)
    (cond (eqb letter 82) (notice (roll date.day) no_id)
    (cond (eqb letter 67) (notice (close date.day) no_id)
    (cond (eqb letter 69) (notice (reopen date.day) no_id) bad))))

-- the last four words of a measure are an id, two numbers and a price
unfoldable pub measure_words : List ℕ → Bool
measure_words line =
    is_id (word_at line 1) && (is_number (word_at line 2) && (is_number (word_at line 3) && is_price (word_at line 4)))

-- 'M AXA 3 2 12.3400', 'a measure on one product: 3 for 2 at the settlement price 12.3400';
-- its letter is 77
unfoldable pub measure_said : List ℕ → Said
measure_said line =
    cond (eqb (get_or line 0 0) 77 && measure_words line)
    (notice (measure (value_of (word_at line 2)) (value_of (word_at line 3)) (price_of (word_at line 4))) (id_bytes (word_at line 1)))
    bad

-- 'Words are parted by single spaces':
-- what the words of a line say; two with a date, five with a measure
unfoldable pub words_said : List ℕ → Said
words_said line =
    cond (letter_form line 2) (day_said (get_or line 0 0) (date_in (word_at line 1)))
    (cond (letter_form line 5) (measure_said line) bad)

-- 'A line that is then empty, or whose first byte is `#` [35], says nothing'
abbrev pub says_nothing : List ℕ → Bool
says_nothing line = eqb (length line) 0 || eqb (get_or line 0 0) 35

-- what a line without blanks at its end says
unfoldable pub trimmed_said : List ℕ → Said
trimmed_said line = cond (says_nothing line) nothing (words_said line)

-- what a line says
abbrev pub said_by : List ℕ → Said
said_by line = trimmed_said (trimmed line)

-- 'one that is too large for its call is refused by its question (28, 19, 22)';
-- only the code needs it: a number as it is held.
-- Each of these questions refuses 1,000,000,000 and every larger number, so those are held as one
unfoldable pub held : ℕ → ℕ
held n = cond (leb n 1000000000) n 1000000000

-- only the code needs it: the number that a word is, as it is held
unfoldable pub number_held : List ℕ → NumberRead
number_held word = cond (is_number word) (record { there = true; value = held (value_of word) }) no_number

-- only the code needs it: the price that a word is, as it is held
unfoldable pub price_held : List ℕ → NumberRead
price_held word = cond (is_price word) (record { there = true; value = held (price_of word) }) no_number

-- only the code needs it: the letters of a line with a date
abbrev pub date_letter : ℕ → Bool
date_letter letter = eqb letter 79 || (eqb letter 82 || (eqb letter 67 || eqb letter 69))

-- only the code needs it: a line with a letter, a day and an id
abbrev pub call_line_held : ℕ → ℕ → List ℕ → NoticeLine
call_line_held letter day id = record { letter = letter; day = day; id = id; p = 0; q = 0; price = 0 }

-- only the code needs it: a line with a letter and a day
abbrev pub day_line_held : ℕ → ℕ → NoticeLine
day_line_held letter day = call_line_held letter day no_id

-- only the code needs it: what a line says, as it is held: its letter, # of one that says nothing and 0 of a bad one, with what its call takes
unfoldable pub line_held : Said → NoticeLine
line_held nothing = day_line_held 35 0
line_held bad = day_line_held 0 0
line_held (opening day) = day_line_held 79 day
line_held (notice (roll day) id) = call_line_held 82 day id
line_held (notice (close day) id) = call_line_held 67 day id
line_held (notice (reopen day) id) = call_line_held 69 day id
line_held (notice (measure p q price) id) =
    record { letter = 77; day = 0; id = id; p = held p; q = held q; price = held price }
