-- All that `decompose` prints of a file, and what comes next of it at a write (docs/OPERATIONS.md, The text of a master file).
-- Assumes nothing.
use Rattle.std.specs.Prelude.{ℕ, ◌+◌, ◌≤◌, ◌≡◌, cond, List, eqb, length, take, drop}
use Rattle.file_calendar.specs.Calendars.{calendar_of}
use Rattle.file_load.specs.Load.{load_call}
use Rattle.session_text.specs.TermsText.{refusal_text}
use Rattle.file_text_print.specs.Contents.{line_count, lines_text}

-- '`decompose` reads a master file .. and prints its text, or `NO n`'
unfoldable pub decompose_text : List ℕ → List ℕ
decompose_text f =
    cond (eqb (load_call f).refusal 0) (lines_text (calendar_of f) f (line_count (calendar_of f) f)) (refusal_text (load_call f).refusal)

-- some bytes are the next of a text after its first `at`
pub record NextOf (text : List ℕ) (at : ℕ) (bytes : List ℕ) : Type 0 where
  pub is : take (length bytes) (drop at text) ≡ bytes
  pub within : at + length bytes ≤ length text
