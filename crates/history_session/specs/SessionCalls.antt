-- A session of the program `terms` as a list of calls (01, The table, 'The list of rolls and closes starts from the table that an accepted open gave back').
-- Assumes nothing.
use Rattle.std.specs.Prelude.{ℕ, ◌≡◌, Bool, true, not, ◌&&◌, ◌||◌, cond, List, [], ◌∷◌, eqb}
use Rattle.file_calendar.specs.Calendars.{calendar_of}
use Rattle.file_load.specs.Load.{product_of}
use Rattle.table.specs.Table.{opened_table, open_call}
use Rattle.session_lines.specs.declared.Command.{Command}
use Rattle.session_lines.specs.CommandLines.{command_of}
use Rattle.session_command.specs.declared.Kept.{Kept}
use Rattle.history.specs.Book.{Call, roll, close}
use Rattle.history.specs.History.{table_run, FromFile}

-- an accepted `O id date`, 79
unfoldable pub is_opening : List ℕ → Command → Bool
is_opening file c = eqb c.letter 79 && eqb (open_call file c.id c.day).refusal 0

-- none of some lines is one
unfoldable pub no_opening : List ℕ → List (List ℕ) → Bool
no_opening file [] = true
no_opening file (line ∷ lines) = not (is_opening file (command_of line)) && no_opening file lines

-- an `R date`, 82, or a `C date`, 67
unfoldable pub is_move : Command → Bool
is_move c = eqb c.letter 82 || eqb c.letter 67

-- its call
unfoldable pub move_of : Command → Call
move_of c = cond (eqb c.letter 82) (roll c.day) (close c.day)

-- the calls of the R and C among some lines
unfoldable pub moves_of : List (List ℕ) → List Call
moves_of [] = []
moves_of (line ∷ lines) = cond (is_move (command_of line)) (move_of (command_of line) ∷ moves_of lines) (moves_of lines)

-- what is kept is the table of a list of calls after an accepted open, of which demand 3 holds, and so it does of every longer list
pub record KeptHistory (file : List ℕ) (opening : Command) (calls : List Call) (h : Kept) : Type 0 where
  pub opened : h.opened ≡ true
  pub table : h.table ≡ table_run (opened_table (product_of file opening.id) (calendar_of file) opening.day) calls
  pub demand : (more : List Call) → FromFile file opening.id opening.day calls more
