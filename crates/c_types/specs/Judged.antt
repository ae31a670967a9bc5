-- An open by a verdict on a master file, the answer to questions 1 to 8 with the file's calendar, which the caller keeps
-- (01, Questions, in order, 'Load' and 'Open').
-- Assumes nothing.
use Rattle.std.specs.Prelude.{ℕ, ◌≡◌, List}
use Rattle.file_calendar.specs.declared.FileCalendar.{FileCalendar}
use Rattle.file_calendar.specs.Calendars.{calendar_answer}
use Rattle.file_load.specs.Load.{judge_call}
use Rattle.table.specs.Table.{zero_table, open_call, open_in}
use Rattle.c_types.specs.declared.FlatOutcome.{FlatOutcome}
use Rattle.c_types.specs.Flat.{flat_table, flat_outcome}

-- what it gives back
abbrev pub flat_open_in : FileCalendar → List ℕ → List ℕ → ℕ → FlatOutcome
flat_open_in judged f id date = flat_outcome (open_in (calendar_answer judged) f id date)

-- of every verdict and every file;
-- of a verdict that is neither the file's nor a refusal nothing more is said than `open_in`: its table may be unsound, and calls on it then get 10
pub record OpenByVerdict (judged : FileCalendar) (f id : List ℕ) (date : ℕ) : Type 0 where
  -- where the verdict is the file's: all that an open gives back which asks 1 to 8 itself
  pub same-file : calendar_answer judged ≡ judge_call f → flat_open_in judged f id date ≡ flat_outcome (open_call f id date)
  -- where it is a refusal: its number
  pub number : (judged.refusal ≡ 0 → ⊥) → (flat_open_in judged f id date).refusal ≡ judged.refusal
  -- '(open: a table of zeros)'
  pub zeros : ((flat_open_in judged f id date).refusal ≡ 0 → ⊥) → (flat_open_in judged f id date).table ≡ flat_table zero_table
