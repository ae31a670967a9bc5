-- A list of calls on a flat table, as a program in another language makes them one by one: it is the list of demand 3 (01, The table; 02, notes 9 and 11).
-- Assumes nothing.
use Rattle.std.specs.Prelude.{ℕ, ◌≡◌, List, [], ◌∷◌}
use Rattle.file_calendar.specs.Calendars.{calendar_of}
use Rattle.file_load.specs.Load.{product_of}
use Rattle.table.specs.Table.{open_call, roll_call, close_call, reopen_call}
use Rattle.table_measures.specs.Measures.{measure_call}
use Rattle.history.specs.Book.{Call, roll, close, reopen, measure, Reply}
use Rattle.history.specs.History.{after, answers, FromFile}
use Rattle.c_types.specs.declared.FlatTable.{FlatTable}
use Rattle.c_types.specs.declared.FlatOutcome.{FlatOutcome}
use Rattle.c_types.specs.declared.FlatMeasured.{FlatMeasured}
use Rattle.c_types.specs.Flat.{unflat_table, flat_table, flat_outcome, outcome_on, measured_on}
use Rattle.c_types.specs.AsItCame.{flat_table_after}

-- what a roll, close or reopening answers beside the table; it gives no price
abbrev pub outcome_reply : FlatOutcome → Reply
outcome_reply o = record { refusal = o.refusal; entered = o.entered; left = o.left; price = 0 }

-- what a measure answers; in it no month enters or leaves
abbrev pub measured_reply : FlatMeasured → Reply
measured_reply m = record { refusal = m.refusal; entered = 0; left = 0; price = m.price }

-- what a call on a flat table answers, by the definition that the exported call promises
abbrev pub answer_on : FlatTable → Call → Reply
answer_on t (roll date) = outcome_reply (outcome_on t (roll_call (unflat_table t) date))
answer_on t (close day) = outcome_reply (outcome_on t (close_call (unflat_table t) day))
answer_on t (reopen day) = outcome_reply (outcome_on t (reopen_call (unflat_table t) day))
answer_on t (measure p q price) = measured_reply (measured_on t (measure_call (unflat_table t) p q price))

-- 'nothing else changes the table between its calls':
-- the flat table after a list of calls, each on the table that the call before it gave back
unfoldable pub flat_run : FlatTable → List Call → FlatTable
flat_run t [] = t
flat_run t (c ∷ cs) = flat_run (flat_table_after t c) cs

-- their answers
unfoldable pub flat_replies : FlatTable → List Call → List Reply
flat_replies t [] = []
flat_replies t (c ∷ cs) = answer_on t c ∷ flat_replies (flat_table_after t c) cs

-- the flat table that an open gives back
abbrev pub flat_opened : List ℕ → List ℕ → ℕ → FlatTable
flat_opened f id date = (flat_outcome (open_call f id date)).table

-- of every file, id and date with an accepted open, and every list of calls: the flat calls are those of demand 3, of which demand 3 holds
pub record FlatHistory (f id : List ℕ) (date : ℕ) (cs ds : List Call) : Type 0 where
  -- the flat table after the list stands for the table of demand 3 after the list, and is that table's flat form
  pub stands : unflat_table (flat_run (flat_opened f id date) cs) ≡ after (product_of f id) (calendar_of f) date cs
  pub flat : flat_run (flat_opened f id date) cs ≡ flat_table (after (product_of f id) (calendar_of f) date cs)
  -- 'every call's acceptance or refusal number and its two counts', and the price of a measure (02, note 11):
  -- every answer is demand 3's
  pub replies : flat_replies (flat_opened f id date) cs ≡ answers (product_of f id) (calendar_of f) date cs
  -- of which demand 3 holds
  pub history : FromFile f id date cs ds
