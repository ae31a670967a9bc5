-- What a list says: the calendar and the records of a master file
-- (docs/OPERATIONS.md, The text of a master file, from which the quotations are; 02, notes 7 and 14).
-- Assumes nothing.
use Rattle.std.specs.Prelude.{ℕ, ◌+◌, ◌≤◌, ◌<◌, ◌≡◌, Bool, true, false, not, ◌&&◌, ◌||◌, cond, List, [], ◌∷◌, ◌++◌, ◌⊎◌, eqb, leb, ltb, length, take, drop}
use Rattle.calendar.specs.declared.Cover.{Cover}
use Rattle.calendar.specs.declared.Calendar.{Calendar}
use Rattle.calendar.specs.Trading.{open_calendar, zero_calendar, calendar_with, valid_cover, in_cover, close_day}
use Rattle.calendar_synthetic.specs.Generated.{made_call}
use Rattle.file_blocks.specs.Blocks.{headers_right}
use Rattle.file_calendar.specs.Calendars.{order_right, calendars_clean, weeks_right}
use Rattle.file_draft.specs.Drafts.{file_of}
use Rattle.file_write.specs.Writing.{write_call, buffer_after}
use Rattle.session_lines.specs.CommandLines.{lines_from}
use Rattle.session_lines.specs.InputRest.{rest_over}
use Rattle.file_text_lines.specs.declared.Entry.{Entry}
use Rattle.delivery_items.specs.declared.LongLine.{LongLine}
use Rattle.delivery_items.specs.Items.{empty_long, lengthened}
use Rattle.file_text_stripped.specs.Said.{line_said, held_said}
use Rattle.file_text_faults.specs.declared.Faults.{Faults}
use Rattle.file_text_faults.specs.Faults.{no_fault, no_faults, faults_after, fault_kept, Numbered, first_fault, first_idle}
use Rattle.file_text_read.specs.declared.ListTaken.{ListTaken}
use Rattle.file_text_read.specs.declared.Composed.{Composed}

-- what the lines so far say: whether one of them says something, a calendar, whether the first of these was an `S`, and records, 32 bytes each;
-- the first lines at fault; how many lines were taken, up to the first that is none of those of a list;
-- and the number of that one, from 1, 0 where there is none. Both numbers are at most 999,999,999
pub record Content : Type 0 where
  pub begun : Bool
  pub calendar : Calendar
  pub seeded : Bool
  pub records : List ℕ
  pub faults : Faults
  pub lines : ℕ
  pub bad : ℕ

-- before the first line there is no year
unfoldable pub no_content : Content
no_content =
    record { begun = false; calendar = zero_calendar; seeded = false; records = []; faults = no_faults; lines = 0; bad = 0 }

-- '`X date`: a closed day on which payments and deliveries run':
-- closed, and with its bit in the second map as a closure sets it in the first
unfoldable pub close_exchange_day : Calendar → ℕ → Calendar
close_exchange_day cal d =
    record {
      cover = cal.cover;
      closed = (close_day cal d).closed;
      exchange = (close_day (calendar_with cal.cover cal.exchange) d).closed;
    }

-- 'The first line that says something is a `Y` [89] or an `S` [83], and no other line is. After an `S` no line is a `C` or an `X`';
-- 'the day of a `C` or `X` is in the cover';
-- the other entry is P, 80
unfoldable pub entry_fits : Bool → Cover → Bool → Entry → Bool
entry_fits begun cover seeded e =
    cond (eqb e.letter 0) false
    (cond (eqb e.letter 89 || eqb e.letter 83) (not begun)
    (begun && (eqb e.letter 80 || (not seeded && in_cover cover e.day))))

-- 'An `S` whose cover is not 1 to 16 years from 2000 to 2099 says no year': the seed's calendar is then one of zeros.
-- The calendar after an entry: Y, 89, S, 83, C, 67, X, 88; a product leaves it as it is
unfoldable pub calendar_after_entry : Calendar → Entry → Calendar
calendar_after_entry cal e =
    cond (eqb e.letter 89) (open_calendar e.cover)
    (cond (eqb e.letter 83) (made_call e.seed e.cover).value
    (cond (eqb e.letter 67) (close_day cal e.day)
    (cond (eqb e.letter 88) (close_exchange_day cal e.day) cal)))

-- one record more; where there is no room for it, it is left out, and question 7 or 8 does not see it.
-- With room for at least 60,992 bytes a list that is left a record short has no file: the records kept are more than 127 blocks hold
unfoldable pub with_record : ℕ → List ℕ → List ℕ → List ℕ
with_record room records one = cond (leb (length records + 32) room) (records ++ one) records

-- the records after an entry, in the order of the lines; only a product, 80, has one
unfoldable pub records_after : ℕ → List ℕ → Entry → List ℕ
records_after room records e = cond (eqb e.letter 80) (with_record room records e.«record») records

-- the number of the next line, at most 999,999,999
unfoldable pub next_line : ℕ → ℕ
next_line n = cond (ltb n 999999999) (n + 1) n

-- what is said after a line more that says nothing, or that is none of a list's: only the number of lines is another, and perhaps that of the bad one
abbrev pub line_counted : Content → ℕ → Content
line_counted c bad =
    record {
      begun = c.begun;
      calendar = c.calendar;
      seeded = c.seeded;
      records = c.records;
      faults = c.faults;
      lines = next_line c.lines;
      bad = bad;
    }

-- what is said after a line more that says something and stands where it may
unfoldable pub entry_taken : ℕ → Content → Entry → Content
entry_taken room c e =
    cond (entry_fits c.begun c.calendar.cover c.seeded e)
    (record {
      begun = true;
      calendar = calendar_after_entry c.calendar e;
      seeded = c.seeded || eqb e.letter 83;
      records = records_after room c.records e;
      faults = faults_after c.faults (next_line c.lines) e;
      lines = next_line c.lines;
      bad = 0;
    })
    (line_counted c (next_line c.lines))

-- what is said after one line more; a comment's letter is #, 35; after a line that is none of a list's, nothing more is taken
unfoldable pub line_taken : ℕ → Content → Entry → Content
line_taken room c e = cond (eqb c.bad 0) (cond (eqb e.letter 35) (line_counted c 0) (entry_taken room c e)) c

-- the same of some lines, one after the other
unfoldable pub lines_taken : ℕ → Content → List Numbered → Content
lines_taken room c [] = c
lines_taken room c (l ∷ ls) = lines_taken room (line_taken room c l.entry) ls

-- some lines with their numbers and what they say, after so many lines
unfoldable pub numbered_from : ℕ → List (List ℕ) → List Numbered
numbered_from n [] = []
numbered_from n (line ∷ lines) =
    record { line = next_line n; entry = line_said (eqb n 0) line } ∷ numbered_from (next_line n) lines

-- 'A line ends with a line feed or with the text':
-- those of a text
unfoldable pub numbered_lines : List ℕ → List Numbered
numbered_lines input = numbered_from 0 (lines_from [] input)

-- what a list says, with room for so many bytes of records
unfoldable pub content_of : ℕ → List ℕ → Content
content_of room input = lines_taken room no_content (numbered_lines input)

-- what is said after the rest of a list, with a line begun; from `no_content` and an empty line this is `content_of` (proofs, Taking: `whole-list`)
unfoldable pub rest_taken : ℕ → Content → LongLine → List ℕ → Content
rest_taken room =
    rest_over empty_long lengthened (λ l. l.length) (λ c. c) (λ c l next. next (line_taken room c (held_said (eqb c.lines 0) l)))

-- what is said after the lines that end in a part of a list, with a line begun
unfoldable pub part_taken : ℕ → Content → LongLine → List ℕ → Content
part_taken room c l [] = c
part_taken room c l (byte ∷ rest) =
    cond (eqb byte 10)
    (part_taken room (line_taken room c (held_said (eqb c.lines 0) l)) empty_long rest)
    (part_taken room c (lengthened l byte) rest)

-- and the line that is begun after them
unfoldable pub line_after : LongLine → List ℕ → LongLine
line_after l [] = l
line_after l (byte ∷ rest) = cond (eqb byte 10) (line_after empty_long rest) (line_after (lengthened l byte) rest)

-- what the code holds: the records stand at the start of a lent buffer
abbrev pub content_in : ListTaken → List ℕ → Content
content_in t buffer =
    record {
      begun = t.begun;
      calendar = t.calendar;
      seeded = t.seeded;
      records = take t.size buffer;
      faults = t.faults;
      lines = t.lines;
      bad = t.bad;
    }

-- before the first line
unfoldable pub nothing_taken : ListTaken
nothing_taken =
    record { begun = false; calendar = zero_calendar; seeded = false; size = 0; faults = no_faults; lines = 0; bad = 0 }

-- of a buffer before and after, with so many bytes of records at its start before and after:
-- they are no fewer, and no more than the buffer has where they were no more before, else as many as before;
-- the buffer is as long as it was, and after the records nothing is changed
pub record Grown (before after : List ℕ) (from size : ℕ) : Type 0 where
  pub more : from ≤ size
  pub within : from ≤ length before → size ≤ length after
  pub past : length before < from → size ≡ from
  pub long : length after ≡ length before
  pub unchanged : drop size after ≡ drop size before

-- of a buffer before and after: the records are so many bytes at its start
pub record RecordsIn (before after : List ℕ) (from size : ℕ) (records : List ℕ) : Type 0 where
  pub is : take size after ≡ records
  pub buffer : Grown before after from size

-- only the code needs it: the state after a line that only counts, with the number of the bad one
unfoldable pub line_told : ListTaken → ℕ → ListTaken
line_told t bad =
    record {
      begun = t.begun;
      calendar = t.calendar;
      seeded = t.seeded;
      size = t.size;
      faults = t.faults;
      lines = next_line t.lines;
      bad = bad;
    }

-- of a state and a buffer before and after one line more that says something
pub record EntryIn (t : ListTaken) (e : Entry) (before after : List ℕ) (r : ListTaken) : Type 0 where
  pub is : content_in r after ≡ entry_taken (length before) (content_in t before) e
  pub buffer : Grown before after t.size r.size

-- of a state and a buffer before and after one line more
pub record ListLineIn (t : ListTaken) (l : LongLine) (before after : List ℕ) (r : ListTaken) : Type 0 where
  pub is : content_in r after ≡ line_taken (length before) (content_in t before) (held_said (eqb t.lines 0) l)
  pub buffer : Grown before after t.size r.size

-- of a state, a line begun and a buffer before and after a part of the list
pub record PartIn (t : ListTaken) (l : LongLine) (part before after : List ℕ) (r : ListTaken) (next : LongLine) : Type 0 where
  pub said : content_in r after ≡ part_taken (length before) (content_in t before) l part
  pub begun : next ≡ line_after l part
  -- whatever the rest of the list is, the whole says what the rest says after the part
  pub is : (rest : List ℕ) → rest_taken (length before) (content_in t before) l (part ++ rest) ≡ rest_taken (length before) (content_in r after) next rest
  pub buffer : Grown before after t.size r.size

-- of the end of the list
pub record EndIn (t : ListTaken) (l : LongLine) (before after : List ℕ) (r : ListTaken) : Type 0 where
  pub is : content_in r after ≡ rest_taken (length before) (content_in t before) l []
  pub buffer : Grown before after t.size r.size

-- the first day of a run without trading where the refusal is 6, else 0
unfoldable pub idle_day : ℕ → Calendar → ℕ
idle_day refusal cal = cond (eqb refusal 6) (first_idle cal) 0

-- '`compose` writes the file to standard output', or 'nothing there' and `BAD k` or `NO n` (docs/OPERATIONS.md, The text of a master file):
-- the number of the first line that is none of a list's,
-- or the refusal with 'the first line at fault' or 'the first day of a run without trading', or the file's length
unfoldable pub composed : Content → ℕ → Composed
composed c room =
    let w = write_call c.calendar c.records room in
    cond (eqb c.bad 0)
    (record { bad = 0; refusal = w.refusal; fault = fault_kept c.faults w.refusal; day = idle_day w.refusal c.calendar; length = w.value })
    (record { bad = c.bad; refusal = 0; fault = no_fault; day = 0; length = 0 })

-- the lent buffer afterwards: the file, and after it what stood there; as it was where a line is none of a list's or the file is refused
unfoldable pub composed_file : Content → List ℕ → List ℕ
composed_file c before = cond (eqb c.bad 0) (buffer_after c.calendar c.records before) before

-- 3 to 6 of a file are answered yes, so that of 3 to 8 and 25 only 7, 8 and 25 can refuse it
pub record CalendarPasses (f : List ℕ) : Type 0 where
  pub yes3 : headers_right f ≡ true
  pub yes4 : order_right f ≡ true
  pub yes5 : calendars_clean f ≡ true
  pub yes6 : weeks_right f ≡ true

-- where no line is bad (the law that gives it asks so): what is kept for a question is its first line at fault (proofs, Where: `says-where`)
pub record SaysWhere (room : ℕ) (input : List ℕ) : Type 0 where
  pub line5 : fault_kept (content_of room input).faults 5 ≡ first_fault 5 (numbered_lines input)
  pub line7 : fault_kept (content_of room input).faults 7 ≡ first_fault 7 (numbered_lines input)
  pub line8 : fault_kept (content_of room input).faults 8 ≡ first_fault 8 (numbered_lines input)

-- the first of some lines that says something is an `S`, 83, with this entry
unfoldable pub say_seed : List Numbered → Entry → Type 0
say_seed [] first = ⊥
say_seed (l ∷ ls) first = ((l.entry.letter ≡ 35) × say_seed ls first) ⊎ ((l.entry ≡ first) × (first.letter ≡ 83))

-- of a list whose first line that says something is an `S` with entry `first`, whatever lines follow (proofs, Seeds: `of-seed`)
pub record OfSeed (room : ℕ) (input : List ℕ) (first : Entry) : Type 0 where
  -- 'all closed days are those of the seed'
  pub calendar : (content_of room input).calendar ≡ (made_call first.seed first.cover).value
  -- 'every calendar made this way passes questions 5 and 6, for every seed and every cover of 1 to 16 years from 2000 to 2099' (02, note 14),
  -- and so does its file, with some product
  pub right-cover : valid_cover first.cover ≡ true → 1 ≤ length (content_of room input).records
      → CalendarPasses (file_of (content_of room input).calendar (content_of room input).records)
  -- 'An `S` whose cover is not 1 to 16 years from 2000 to 2099 says no year, so that the file gets 4',
  -- where each line is one of a list's
  pub wrong-cover : valid_cover first.cover ≡ false → (content_of room input).bad ≡ 0 → (space : ℕ)
      → composed (content_of room input) space ≡ record { bad = 0; refusal = 4; fault = no_fault; day = 0; length = 0 }
