-- A call of a lent list on a table apart from the two maps of its calendar. Only the code needs it.
-- Assumes nothing.
use Rattle.std.specs.Prelude.{◌≡◌, List, ℕ}
use Rattle.table.specs.declared.Table.{Table}
use Rattle.history.specs.declared.Called.{Called}
use Rattle.history.specs.Book.{roll, close}
use Rattle.history.specs.History.{table_call}
use Rattle.session_apart.specs.Apart.{table_with}
use Rattle.delivery_calls.specs.declared.MadeApart.{MadeApart}

-- what a call gives back, of a table apart: its refusal, and the table that the rest and its maps afterwards make
pub record CallMade (o : Called) (r : MadeApart) (closed exchange : List ℕ) : Type 0 where
  pub refusal : r.refusal ≡ o.refusal
  pub table : table_with r.rest closed exchange ≡ o.table

-- what a command with a day gives back: with the letter R the roll to it, with C its close
pub record CommandMade (t : Table) (letter day : ℕ) (r : MadeApart) (closed exchange : List ℕ) : Type 0 where
  pub rolls : letter ≡ 82 → CallMade (table_call t (roll day)) r closed exchange
  pub closes : letter ≡ 67 → CallMade (table_call t (close day)) r closed exchange
