-- An old file through a history (02, note 4).
-- Assumes nothing.
use Rattle.std.specs.Prelude.{ℕ, ◌≡◌, true, List}
use Rattle.file_calendar.specs.Calendars.{old_file}
use Rattle.table.specs.Table.{open_call}
use Rattle.table_values.specs.Values.{due_day, old_due_day, ZeroSecond}
use Rattle.history.specs.Book.{Call}
use Rattle.history.specs.History.{table_run}

-- 'An old file, whose second map is zero, yields its old due days':
-- every table of an accepted open from it, after any list of calls
pub record OldFileDues (f id : List ℕ) (date : ℕ) : Type 0 where
  pub zero : old_file f ≡ true → (open_call f id date).refusal ≡ 0 → (cs : List Call) → ZeroSecond (table_run (open_call f id date).table cs)
  pub days : old_file f ≡ true → (open_call f id date).refusal ≡ 0 → (cs : List Call) (day : ℕ)
      → due_day (table_run (open_call f id date).table cs) day ≡ old_due_day (table_run (open_call f id date).table cs) day
