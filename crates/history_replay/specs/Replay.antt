-- A history from a lent list: the open, the calls, and what a lent buffer then holds of their answers (01, The table; 02, notes 9 and 11).
-- Assumes nothing.
use Rattle.std.specs.Prelude.{ℕ, ◌+◌, ◌*◌, ◌/◌, ◌%◌, ◌≡◌, Bool, true, false, ◌&&◌, cond, List, [], ◌∷◌, ◌++◌, eqb, leb, length, get_or, drop}
use Rattle.questions.specs.Search.{every}
use Rattle.table.specs.declared.Table.{Table}
use Rattle.table.specs.Table.{open_call}
use Rattle.history.specs.Book.{Call, roll, close, reopen, measure, Reply}
use Rattle.history.specs.History.{table_run, table_replies, FromFile}
use Rattle.history_replay.specs.declared.Replay.{Replay}

-- a number of the lent list that a call takes in 16 bits: a date, a day, p or q; one that does not fit is read as 65,535, which is none of them
abbrev pub short_in : ℕ → ℕ
short_in number = cond (leb number 65535) number 65535

-- a call of the lent list by its kind, 0 to 3, and three numbers:
-- 0 a roll to a date, 1 a close of a day, 2 a reopening of a day, 3 a measure of p for q with a price;
-- any other number is a roll to 65,535, which is no day: every table refuses it.
-- A list with such a number does not fit (`kinds_fit`), and no call of it is run
abbrev pub call_of : ℕ → ℕ → ℕ → ℕ → Call
call_of kind first second third =
    cond (eqb kind 0) (roll (short_in first))
    (cond (eqb kind 2) (reopen (short_in first))
    (cond (eqb kind 3) (measure (short_in first) (short_in second) third)
    (cond (eqb kind 1) (close (short_in first)) (roll 65535))))

-- the calls of a lent list, four numbers each: the kind and three more, of which only a measure reads the last two
unfoldable pub calls_of : List ℕ → List Call
calls_of (kind ∷ first ∷ second ∷ third ∷ rest) = call_of kind first second third ∷ calls_of rest
calls_of (kind ∷ first ∷ second ∷ []) = []
calls_of (kind ∷ first ∷ []) = []
calls_of (kind ∷ []) = []
calls_of [] = []

-- call i of such a list
abbrev pub call_at : List ℕ → ℕ → Call
call_at calls i = call_of (get_or calls (4 * i) 0) (get_or calls (4 * i + 1) 0) (get_or calls (4 * i + 2) 0) (get_or calls (4 * i + 3) 0)

-- the answers as numbers, four for each call: refusal, entered, left, price
unfoldable pub numbers_of : List Reply → List ℕ
numbers_of [] = []
numbers_of (r ∷ rs) = r.refusal ∷ r.entered ∷ r.left ∷ r.price ∷ numbers_of rs

-- a list of so many numbers holds whole calls, and a buffer of so many has four places for each
abbrev pub lengths_fit : ℕ → ℕ → Bool
lengths_fit calls buffer = eqb (calls % 4) 0 && leb calls buffer

-- every call of the list has a kind of 0 to 3
unfoldable pub kinds_fit : List ℕ → Bool
kinds_fit calls = every (length calls / 4) (λ i. leb (get_or calls (4 * i) 0) 3)

-- both of a list, with a buffer of so many places
unfoldable pub replay_fits : List ℕ → ℕ → Bool
replay_fits calls buffer = lengths_fit (length calls) buffer && kinds_fit calls

-- of a table, a list that fits and a buffer before and after: the table is the one that the calls leave, and the buffer starts with their answers
pub record CallsMade (t : Table) (calls before after : List ℕ) (r : Table) : Type 0 where
  pub table : r ≡ table_run t (calls_of calls)
  pub answers : after ≡ numbers_of (table_replies t (calls_of calls)) ++ drop (length calls) before

-- where the list fits, the table is the one that the calls leave and the buffer starts with their answers;
-- where it does not, no call is made and nothing is written
pub record Replayed (f id : List ℕ) (date : ℕ) (calls before after : List ℕ) (r : Replay) : Type 0 where
  pub fits : r.fits ≡ replay_fits calls (length before)
  pub refusal : r.refusal ≡ (open_call f id date).refusal
  pub made : r.fits ≡ true → CallsMade (open_call f id date).table calls before after r.table
  pub idle : r.fits ≡ false → (r.table ≡ (open_call f id date).table) × (after ≡ before)
  -- demand 3 of these calls, at their end and after any more of them; `FromFile` is proved of every list, so of each moment within the run too
  pub history : r.refusal ≡ 0 → (ds : List Call) → FromFile f id date (calls_of calls) ds
