-- What a refused call gives back: the table, the state, the queue or the buffer as it came (01, Questions; 02, notes 7, 8, 9, 11 and 13);
-- and the 10 of a table whose product's kind number is no kind.
-- Assumes nothing.
use Rattle.std.specs.Prelude.{ℕ, ◌≡◌, true, false, List, [], length}
use Rattle.calendar.specs.declared.Calendar.{Calendar}
use Rattle.product.specs.Fields.{kind_right}
use Rattle.table.specs.Table.{sound, zero_table, open_call, roll_call, close_call, reopen_call}
use Rattle.table_values.specs.Values.{last_day_call, due_call}
use Rattle.table_prices.specs.TablePrices.{tick_call, cash_call}
use Rattle.table_measures.specs.Measures.{measure_call}
use Rattle.table_vendor.specs.Vendor.{vendor_call}
use Rattle.history.specs.Book.{Call, roll, close, reopen, measure}
use Rattle.file_write.specs.Writing.{write_call, buffer_after}
use Rattle.file_intake.specs.declared.Intake.{Intake}
use Rattle.file_intake.specs.Intake.{take_call}
use Rattle.rounds.specs.declared.Queue.{Queue}
use Rattle.rounds.specs.Rounds.{queue_of, handle_call, join_call, leave_call}
use Rattle.c_types.specs.declared.FlatTable.{FlatTable}
use Rattle.c_types.specs.Flat.{unflat_table, flat_table, flat_outcome, flat_measured, outcome_on, measured_on}

-- the number that a call on a flat table gives, a call that may change it
abbrev pub refusal_on : FlatTable → Call → ℕ
refusal_on t (roll date) = (outcome_on t (roll_call (unflat_table t) date)).refusal
refusal_on t (close day) = (outcome_on t (close_call (unflat_table t) day)).refusal
refusal_on t (reopen day) = (outcome_on t (reopen_call (unflat_table t) day)).refusal
refusal_on t (measure p q price) = (measured_on t (measure_call (unflat_table t) p q price)).refusal

-- the flat table that it gives back
abbrev pub flat_table_after : FlatTable → Call → FlatTable
flat_table_after t (roll date) = (outcome_on t (roll_call (unflat_table t) date)).table
flat_table_after t (close day) = (outcome_on t (close_call (unflat_table t) day)).table
flat_table_after t (reopen day) = (outcome_on t (reopen_call (unflat_table t) day)).table
flat_table_after t (measure p q price) = (measured_on t (measure_call (unflat_table t) p q price)).table

-- what is given back is what the call on the table gives, all of it
pub record CallsOwn (t : FlatTable) : Type 0 where
  pub rolled : (date : ℕ) → outcome_on t (roll_call (unflat_table t) date) ≡ flat_outcome (roll_call (unflat_table t) date)
  pub closed : (day : ℕ) → outcome_on t (close_call (unflat_table t) day) ≡ flat_outcome (close_call (unflat_table t) day)
  pub reopened : (day : ℕ) → outcome_on t (reopen_call (unflat_table t) day) ≡ flat_outcome (reopen_call (unflat_table t) day)
  pub measured : (p q price : ℕ) → measured_on t (measure_call (unflat_table t) p q price) ≡ flat_measured (measure_call (unflat_table t) p q price)

-- a call that only reads a table, with its arguments
pub data ReadCall : Type 0 where
  last-day due tick : ℕ → ReadCall
  cash : (contracts agreed final : ℕ) → ReadCall
  judge : List ℕ → ReadCall

-- the number that it gives on a flat table
abbrev pub read_refusal : FlatTable → ReadCall → ℕ
read_refusal t (last-day key) = (last_day_call (unflat_table t) key).refusal
read_refusal t (due day) = (due_call (unflat_table t) day).refusal
read_refusal t (tick price) = tick_call (unflat_table t) price
read_refusal t (cash contracts agreed final) = (cash_call (unflat_table t) contracts agreed final).refusal
read_refusal t (judge list) = (vendor_call (unflat_table t) list).refusal

-- of a flat table, whatever its fields are
pub record OnFlat (t : FlatTable) : Type 0 where
  -- 'With it: table calls return the same table ..'
  pub as-it-came : (c : Call) → (refusal_on t c ≡ 0 → ⊥) → flat_table_after t c ≡ t
  -- its product's kind number is a kind
  pub own : kind_right t.product.kind ≡ true → CallsOwn t
  -- its product's kind number is no kind: the table is not sound, so every call on it gets 10
  pub no_kind : kind_right t.product.kind ≡ false → sound (unflat_table t) ≡ false
  pub ten : kind_right t.product.kind ≡ false → (c : Call) → refusal_on t c ≡ 10
  pub ten-read : kind_right t.product.kind ≡ false → (c : ReadCall) → read_refusal t c ≡ 10

-- of calls that have no table among their arguments
pub record AsItCame : Type 0 where
  -- '(open: a table of zeros)'
  pub opened : (f id : List ℕ) (date : ℕ) → ((open_call f id date).refusal ≡ 0 → ⊥) → (flat_outcome (open_call f id date)).table ≡ flat_table zero_table
  -- 'the state is then as before' (02, note 8)
  pub state : (s : Intake) (b : List ℕ) → ((take_call s b).refusal ≡ 0 → ⊥) → (take_call s b).state ≡ s
  -- 'A refused call takes none and returns the queue as it came' (02, note 13)
  pub handled : (q : Queue) (b : ℕ) → ((handle_call q b).refusal ≡ 0 → ⊥) → ((handle_call q b).taken ≡ queue_of []) × ((handle_call q b).queue ≡ q)
  pub joined : (q : Queue) (table : ℕ) → ((join_call q table).refusal ≡ 0 → ⊥) → (join_call q table).queue ≡ q
  pub left : (q : Queue) (table : ℕ) → ((leave_call q table).refusal ≡ 0 → ⊥) → (leave_call q table).queue ≡ q
  -- 'No refusal writes anything' (02, note 7)
  pub buffer : (cal : Calendar) (records before : List ℕ) → ((write_call cal records (length before)).refusal ≡ 0 → ⊥) → buffer_after cal records before ≡ before
