-- All that `compose` hands out of a text: the file on standard output, and what is told on standard error
-- (docs/OPERATIONS.md, The text of a master file, from which the quotations are).
-- What is told of a read or a write that fails is not here.
-- Assumes nothing.
use Rattle.std.specs.Prelude.{ℕ, ◌+◌, ◌%◌, ◌^◌, ◌≤◌, ◌≡◌, Bool, true, false, ◌&&◌, cond, List, [], ◌++◌, eqb, length}
use Rattle.questions.specs.Questions.{first_no}
use Rattle.calendar.specs.Trading.{cover_start, cover_end, some_trades}
use Rattle.file_draft.specs.Drafts.{file_of, write_asks}
use Rattle.delivery_items.specs.declared.LongLine.{LongLine}
use Rattle.file_text_faults.specs.Faults.{first_fault, first_idle}
use Rattle.file_text_read.specs.declared.ListTaken.{ListTaken}
use Rattle.file_text_read.specs.Lists.{Content, numbered_lines, content_of, rest_taken, content_in}
use Rattle.file_text_told.specs.ComposeTexts.{bad_entry_text, refused_file_text}

-- 'The first 2,048 products are kept', 65,536 bytes of records:
-- what a text says, of one with a bad line the lines before it
unfoldable pub text_content : List ℕ → Content
text_content input = content_of 65536 input

-- 'where the file would be refused, or is longer than 65,536 bytes (25)':
-- the number, 0 where it is not
unfoldable pub text_refusal : List ℕ → ℕ
text_refusal input = first_no (write_asks (text_content input).calendar (text_content input).records 65536)

-- '`compose` writes the file to standard output. Where a line is none of these, or stands where it may not, it writes nothing there ..';
-- 'where the file would be refused .., it writes nothing'
unfoldable pub compose_text : List ℕ → List ℕ
compose_text input =
    cond (eqb (text_content input).bad 0 && eqb (text_refusal input) 0) (file_of (text_content input).calendar (text_content input).records) []

-- '.. and `BAD k` to standard error, k the number of the first such line';
-- 'Else .. `NO n`, with 5, 7 and 8 the number of the first line at fault and, for a product, its id ..;
-- with 6 the first day of a run without trading';
-- where there is a file, nothing
unfoldable pub compose_told : List ℕ → List ℕ
compose_told input =
    cond (eqb (text_content input).bad 0)
    (cond (eqb (text_refusal input) 0) []
    (refused_file_text (text_refusal input) (first_fault (text_refusal input) (numbered_lines input)) (first_idle (text_content input).calendar)))
    (bad_entry_text (text_content input).bad)

-- only the code needs it: what is held after some bytes of a text, of which n were counted, modulo 2^64:
-- whatever follows, the rest says after it what the whole says; the records have room for 65,536 bytes
pub record ReadTo (t : ListTaken) (l : LongLine) (records : List ℕ) (n : ℕ) : Type 0 where
  pub input : List ℕ
  pub count : n ≡ length input % 2 ^ 64
  pub room : length records ≡ 65536
  pub is : (rest : List ℕ) → rest_taken 65536 (content_in t records) l rest ≡ content_of 65536 (input ++ rest)

-- these bytes are the file of an input of which n bytes were counted, and these are told of it; that it has the bytes that were read is not said
pub record OfInput (n : ℕ) (text told : List ℕ) : Type 0 where
  pub input : List ℕ
  pub count : n ≡ length input % 2 ^ 64
  pub file : text ≡ compose_text input
  pub said : told ≡ compose_told input

-- the end of a run: there is an input of which n bytes were counted;
-- where standard output took all, it took as many bytes as the input's file has;
-- as many bytes were told as there are to tell of it, modulo 2^64
-- which bytes these were is not said here: the function that hands them out requires it (`OfInput`)
pub record ComposeHandedOut (n : ℕ) (taken : Bool) (bytes told : ℕ) : Type 0 where
  pub input : List ℕ
  pub count : n ≡ length input % 2 ^ 64
  pub file : taken ≡ true → bytes ≡ length (compose_text input)
  pub said : told % 2 ^ 64 ≡ length (compose_told input) % 2 ^ 64

-- the place that is told with a refusal: of a text with no bad line with 5, 7 and 8 a line's number from 1 on;
-- of every text with 6 a day of the cover from which on seven days in the cover are no trading days
-- that it is the first is what `first_fault` and `first_idle` say
pub record SaysPlace (input : List ℕ) : Type 0 where
  pub line5 : (text_content input).bad ≡ 0 → text_refusal input ≡ 5 → 1 ≤ (first_fault 5 (numbered_lines input)).line
  pub line7 : (text_content input).bad ≡ 0 → text_refusal input ≡ 7 → 1 ≤ (first_fault 7 (numbered_lines input)).line
  pub line8 : (text_content input).bad ≡ 0 → text_refusal input ≡ 8 → 1 ≤ (first_fault 8 (numbered_lines input)).line
  pub day6 : text_refusal input ≡ 6 → cover_start (text_content input).calendar.cover ≤ first_idle (text_content input).calendar
  pub days6 : text_refusal input ≡ 6 → first_idle (text_content input).calendar + 7 ≤ cover_end (text_content input).calendar.cover
  pub idle6 : text_refusal input ≡ 6 → some_trades (text_content input).calendar (first_idle (text_content input).calendar) 7 ≡ false
