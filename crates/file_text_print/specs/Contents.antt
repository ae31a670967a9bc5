-- The text of what a master file holds, line by line (02, notes 7 and 11; docs/OPERATIONS.md, The text of a master file).
-- Assumes nothing.
use Rattle.std.specs.Prelude.{ℕ, zero, suc, ◌+◌, ◌-◌, ◌/◌, ◌%◌, ◌≤◌, ◌<◌, ◌≡◌, Bool, ◌&&◌, cond, List, [], ◌∷◌, ◌++◌, eqb, leb, ltb, length, get_or, take, drop}
use Rattle.calendar.specs.declared.Cover.{Cover}
use Rattle.calendar.specs.declared.Calendar.{Calendar}
use Rattle.calendar.specs.Trading.{cover_start, cover_end, closed_on, in_second_map}
use Rattle.file_blocks.specs.Blocks.{block_of, number_at}
use Rattle.file_records.specs.Records.{record_of, three_bytes, four_bytes}
use Rattle.file_ids.specs.Ids.{place_count, is_record}
use Rattle.session_lines.specs.declared.Line.{Line}
use Rattle.session_lines.specs.CommandLines.{fed}
use Rattle.session_text.specs.TermsText.{in_four_digits, day_text, spaced}
use Rattle.file_text_print.specs.declared.PrintProgress.{PrintProgress}

-- of a line before and after: it has a text more
pub record LineWith (before : Line) (text : List ℕ) (after : Line) : Type 0 where
  pub is : after ≡ fed before text

-- '`Y first years`', and a line feed, 10
unfoldable pub cover_text : Cover → List ℕ
cover_text c = (89 ∷ []) ++ (spaced c.first_year ++ (spaced c.years ++ (10 ∷ [])))

-- '`C date`', '`X date`'
unfoldable pub marked_text : ℕ → ℕ → List ℕ
marked_text letter d = (letter ∷ (32 ∷ [])) ++ (day_text d ++ (10 ∷ []))

-- '1 to 4 of A–Z and 0–9, then spaces' (01, Master file):
-- the characters of an id before its spaces, 32
unfoldable pub id_text : List ℕ → List ℕ
id_text [] = []
id_text (byte ∷ rest) = cond (eqb byte 32) [] (byte ∷ id_text rest)

-- 'a point and four digits' (a point is 46):
-- the ten-thousandths of a size, nothing where it is whole (02, note 11)
unfoldable pub part_text : ℕ → List ℕ
part_text part = cond (eqb part 0) [] ((46 ∷ []) ++ in_four_digits part)

-- '`P id group market kind size tick currency`', of a record's bytes
unfoldable pub product_text : List ℕ → List ℕ
product_text r =
    (80 ∷ (32 ∷ []))
    ++ (id_text (four_bytes r 0)
    ++ ((32 ∷ [])
    ++ (four_bytes r 4
    ++ ((32 ∷ [])
    ++ (four_bytes r 8
    ++ (spaced (get_or r 12 0)
    ++ (spaced (number_at r 13)
    ++ (part_text (number_at r 20)
    ++ (spaced (number_at r 15)
    ++ ((32 ∷ []) ++ (three_bytes r 17 ++ (10 ∷ []))))))))))))

-- the line of a day: 'X' [88], 'C' [67], or none
unfoldable pub day_line : Calendar → ℕ → List ℕ
day_line cal d = cond (in_second_map cal d) (marked_text 88 d) (cond (closed_on cal d) (marked_text 67 d) [])

-- the line of a place for a record, where it holds one
unfoldable pub place_line : List ℕ → ℕ → List ℕ
place_line f p = cond (is_record f p) (product_text (record_of (block_of f (p / 15)) (p % 15))) []

-- how many days a cover has
unfoldable pub cover_days : Cover → ℕ
cover_days c = cover_end c - cover_start c

-- line n: the cover, then 'the closed days by date', then 'the products in the file's order'.
-- A day that is not closed and a place without a record have none
unfoldable pub line_text : Calendar → List ℕ → ℕ → List ℕ
line_text cal f n =
    cond (eqb n 0) (cover_text cal.cover)
    (cond (leb n (cover_days cal.cover)) (day_line cal (cover_start cal.cover + (n - 1))) (place_line f (n - 1 - cover_days cal.cover)))

-- how many of them there are
unfoldable pub line_count : Calendar → List ℕ → ℕ
line_count cal f = 1 + (cover_days cal.cover + place_count f)

-- the first n of them
unfoldable pub lines_text : Calendar → List ℕ → ℕ → List ℕ
lines_text cal f zero = []
lines_text cal f (suc n) = lines_text cal f n ++ line_text cal f n

-- there is a line more, and room for it: none has 64 bytes
unfoldable pub another_line : ℕ → ℕ → List ℕ → ℕ → Bool
another_line n count out length' = ltb n count && leb (length' + 64) (length out)

-- how far the lines from line n on come in a buffer of so many bytes, of which `length'` are written, with so many lines to come:
-- as long as there is room for 64 bytes more
unfoldable pub printed_from : Calendar → List ℕ → ℕ → ℕ → ℕ → ℕ → PrintProgress
printed_from cal f room zero n length' = record { next = n; length = length' }
printed_from cal f room (suc left) n length' =
    cond (leb (length' + 64) room) (printed_from cal f room left (suc n) (length' + length (line_text cal f n))) (record { next = n; length = length' })

-- of a buffer before and after: the lines from one on stand at its start
pub record LinesIn (cal : Calendar) (f : List ℕ) (from : ℕ) (before after : List ℕ) (r : PrintProgress) : Type 0 where
  -- the lines before and what was written are all lines up to the next
  pub is : lines_text cal f r.next ≡ lines_text cal f from ++ take r.length after
  -- they come as far as there is room
  pub far : r ≡ printed_from cal f (length before) (line_count cal f - from) from 0
  -- it stands at the buffer's start, and nothing else is changed
  pub fits : r.length ≤ length after
  pub unchanged : drop r.length after ≡ drop r.length before
  pub long : length after ≡ length before
  -- with room for a line and a line to come it goes on, and not past the last
  pub moves : 64 ≤ length before → from < line_count cal f → from < r.next
  pub within : from ≤ line_count cal f → r.next ≤ line_count cal f
