-- A file and its text, there and back (docs/OPERATIONS.md, The text of a master file, from which the quotation is):
-- what `decompose` prints of a file, read by `compose`.
-- Assumes nothing.
use Rattle.std.specs.Prelude.{ℕ, ◌≤◌, ◌≡◌, List, ◌++◌, length, drop}
use Rattle.calendar.specs.declared.Calendar.{Calendar}
use Rattle.calendar.specs.Trading.{closed_on, in_second_map}
use Rattle.file_text_print.specs.WholeText.{decompose_text}
use Rattle.file_text_faults.specs.Faults.{no_fault}
use Rattle.file_text_read.specs.Lists.{content_of, composed, composed_file}

-- a text says a calendar and records: each line is one of a list's,
-- the cover, the closed days and the days of the second map are the calendar's, and the records are these, byte by byte
pub record SaysAgain (room : ℕ) (text : List ℕ) (cal : Calendar) (records : List ℕ) : Type 0 where
  pub good : (content_of room text).bad ≡ 0
  pub cover : (content_of room text).calendar.cover ≡ cal.cover
  pub closed-days : (d : ℕ) → closed_on (content_of room text).calendar d ≡ closed_on cal d
  pub second-days : (d : ℕ) → in_second_map (content_of room text).calendar d ≡ in_second_map cal d
  pub records-said : (content_of room text).records ≡ records

-- '`compose` makes the same file of that text where all product blocks but the last are full':
-- each line is one of a list's, nothing is refused,
-- and in a buffer with room for the file stands the file, byte by byte, and after it what stood there
pub record FileAgain (room : ℕ) (f : List ℕ) : Type 0 where
  pub answer : (space : ℕ) → length f ≤ space
      → composed (content_of room (decompose_text f)) space ≡ record { bad = 0; refusal = 0; fault = no_fault; day = 0; length = length f }
  pub file : (before : List ℕ) → length f ≤ length before → composed_file (content_of room (decompose_text f)) before ≡ f ++ drop (length f) before
