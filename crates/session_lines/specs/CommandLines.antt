-- A line of the input as a command (01, March 2008 and its neighbours, 'The program `terms`').
-- A line is given by the byte at each place, from 0 on, and by its length.
-- Assumes nothing.
use Rattle.std.specs.Prelude.{ℕ, ◌+◌, ◌-◌, ◌*◌, ◌%◌, Bool, true, false, ◌&&◌, ◌||◌, cond, List, [], ◌∷◌, ◌++◌, leb, ltb, eqb, get_or, set, length, replicate}
use Rattle.questions.specs.Search.{every}
use Rattle.days.specs.Dates.{day_call}
use Rattle.product.specs.Fields.{digit, id_character}
use Rattle.session_lines.specs.declared.Line.{Line}
use Rattle.session_lines.specs.declared.Command.{Command}
use Rattle.session_lines.specs.declared.DateRead.{DateRead}

-- the value of a digit, 0 to 9; the digit 0 is byte 48.
-- It is taken mod 10 so that a byte that is no digit has a value below 10 too, and the numbers of a line stay small
abbrev pub digit_value : ℕ → ℕ
digit_value byte = (byte - 48) % 10

-- two digits stand at a place and the next
abbrev pub two_digits : (ℕ → ℕ) → ℕ → Bool
two_digits line at = digit (line at) && digit (line (at + 1))

-- the number that they are
abbrev pub two_value : (ℕ → ℕ) → ℕ → ℕ
two_value line at = 10 * digit_value (line at) + digit_value (line (at + 1))

-- 'a date is year, month, day in 4, 2 and 2 digits joined by hyphens', 45:
-- its ten characters from a place on
unfoldable pub date_form : (ℕ → ℕ) → ℕ → Bool
date_form line at =
    two_digits line at
    && (two_digits line (at + 2)
    && (eqb (line (at + 4)) 45
    && (two_digits line (at + 5) && (eqb (line (at + 7)) 45 && two_digits line (at + 8)))))

-- the year of a date
abbrev pub year_at : (ℕ → ℕ) → ℕ → ℕ
year_at line at = 100 * two_value line at + two_value line (at + 2)

-- no date
abbrev pub no_date_read : DateRead
no_date_read = record { there = false; day = 0 }

-- 'and one that 23 refuses makes another line':
-- the date at a place
unfoldable pub date_at : (ℕ → ℕ) → ℕ → DateRead
date_at line at =
    let call = day_call (year_at line at) (two_value line (at + 5)) (two_value line (at + 8)) in
    cond (date_form line at) (cond (eqb call.refusal 0) (record { there = true; day = call.value }) no_date_read) no_date_read

-- no id: zeros
abbrev pub no_id : List ℕ
no_id = replicate 4 0

-- another line: no letter, and zeros
abbrev pub other_line : Command
other_line = record { letter = 0; id = no_id; day = 0 }

-- '`R date`, `C date`':
-- the letter R, 82, or C, 67, a space, 32, and a date, 12 characters in all
unfoldable pub move_form : (ℕ → ℕ) → ℕ → Bool
move_form line n = eqb n 12 && ((eqb (line 0) 82 || eqb (line 0) 67) && eqb (line 1) 32)

-- '`R date`, `C date`':
-- the command of such a line
unfoldable pub move_command : (ℕ → ℕ) → ℕ → Command
move_command line n =
    cond (move_form line n && (date_at line 2).there)
    (record { letter = line 0; id = no_id; day = (date_at line 2).day }) other_line

-- 'An id is 1 to 4 characters as in a record':
-- k of A–Z and 0–9 after the letter and its space
unfoldable pub id_form : (ℕ → ℕ) → ℕ → Bool
id_form line k = every k (λ i. id_character (line (2 + i)))

-- byte i of such an id as a record has it, with spaces after its k characters
abbrev pub id_byte_at : (ℕ → ℕ) → ℕ → ℕ → ℕ
id_byte_at line k i = cond (ltb i k) (line (2 + i)) 32

-- 'An id is 1 to 4 characters as in a record':
-- the four bytes of such an id
unfoldable pub id_in_line : (ℕ → ℕ) → ℕ → List ℕ
id_in_line line k = id_byte_at line k 0 ∷ id_byte_at line k 1 ∷ id_byte_at line k 2 ∷ id_byte_at line k 3 ∷ []

-- '`O id date`':
-- with an id of k characters there are 13 more: the letter, a space, then after the id a space and a date
unfoldable pub open_form : (ℕ → ℕ) → ℕ → Bool
open_form line k = leb 1 k && (leb k 4 && (eqb (line 1) 32 && (id_form line k && eqb (line (2 + k)) 32)))

-- '`O id date`':
-- the command of such a line
unfoldable pub open_command : (ℕ → ℕ) → ℕ → Command
open_command line n =
    cond (open_form line (n - 13) && (date_at line (3 + (n - 13))).there)
    (record { letter = 79; id = id_in_line line (n - 13); day = (date_at line (3 + (n - 13))).day }) other_line

-- a line that begins with O, 79, is an open or another line
unfoldable pub command_at : (ℕ → ℕ) → ℕ → Command
command_at line n = cond (eqb (line 0) 79) (open_command line n) (move_command line n)

-- the command of a line of any length
unfoldable pub command_of : List ℕ → Command
command_of line = command_at (λ i. get_or line i 0) (length line)

-- the command of a line as the program holds it: its first 64 bytes and its length, at most 64
unfoldable pub line_command : Line → Command
line_command l = command_at (λ i. get_or l.bytes i 0) l.length

-- a line with no bytes
unfoldable pub empty_line : Line
empty_line = record { bytes = replicate 64 0; length = 0 }

-- a line with one byte more; a line of 64 bytes is longer than every command and every line of a master file's text, and stays as it is
unfoldable pub extended : Line → ℕ → Line
extended l byte = cond (ltb l.length 64) (record { bytes = set l.bytes l.length byte; length = l.length + 1 }) l

-- a line with all bytes of a list more, one by one
unfoldable pub fed : Line → List ℕ → Line
fed l [] = l
fed l (byte ∷ bytes) = fed (extended l byte) bytes

-- 'a line, which ends with a line feed [10] or with the input':
-- the lines of an input, after a line that has begun with some bytes; a last line feed begins no further line
unfoldable pub lines_from : List ℕ → List ℕ → List (List ℕ)
lines_from begun [] = cond (eqb (length begun) 0) [] (begun ∷ [])
lines_from begun (byte ∷ rest) = cond (eqb byte 10) (begun ∷ lines_from [] rest) (lines_from (begun ++ (byte ∷ [])) rest)
