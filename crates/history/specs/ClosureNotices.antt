-- A closure and the second map, of the calls on a table (02, note 4, 'A closure notice leaves the second map's bit 0').
-- Assumes nothing.
use Rattle.std.specs.Prelude.{ℕ, ◌≡◌, Bool, true, false, List}
use Rattle.calendar.specs.Bits.{bit_at}
use Rattle.calendar.specs.Trading.{slot_of}
use Rattle.table.specs.declared.Table.{Table}
use Rattle.table.specs.Table.{close_call, reopen_call}
use Rattle.history.specs.Book.{Call}
use Rattle.history.specs.History.{table_run}

-- the second map's bit of a day of the cover; what it is of another day is not used
abbrev pub second_bit : Table → ℕ → Bool
second_bit t day = bit_at t.calendar.exchange (slot_of t.calendar.cover day)

-- of every table, sound or not, and every day
pub record ClosureNotice (t : Table) (day : ℕ) : Type 0 where
  -- 'A closure notice leaves the second map's bit 0':
  -- an accepted close, of the table that it gives back
  pub closed : (close_call t day).refusal ≡ 0 → second_bit (close_call t day).table day ≡ false
  -- a day whose bit is 1 is closed already: no close of it is accepted
  pub no-second-close : second_bit t day ≡ true → (close_call t day).refusal ≡ 0 → ⊥
  -- 'clears the day in both maps' (02, note 9), of these the second:
  -- an accepted reopening leaves the bit 0, whatever it was
  pub reopened : (reopen_call t day).refusal ≡ 0 → second_bit (reopen_call t day).table day ≡ false
  -- and where the same day is then closed again, its bit is 0
  pub closed-again : (reopen_call t day).refusal ≡ 0 → (close_call (reopen_call t day).table day).refusal ≡ 0
      → second_bit (close_call (reopen_call t day).table day).table day ≡ false
  -- nor does any list of calls after the close set it, reopenings and closes of the same day among them
  pub stays : (close_call t day).refusal ≡ 0 → (cs : List Call) → second_bit (table_run (close_call t day).table cs) day ≡ false
