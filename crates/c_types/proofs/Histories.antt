-- A list of calls on a flat table is the list of demand 3: the flat form of a table has a kind, so every call on it gives the flat form of what the
-- call on the table gives.
-- Assumes nothing.
use mathlib.Core.Path.{◌≡◌, refl, ◌∙◌, ap}
use mathlib.Core.List.{List, [], ◌∷◌}
use Prim.Native.Nat.{ℕ}
use Rattle.table.specs.declared.Table.{Table}
use Rattle.table.specs.Table.{open_call, roll_call, close_call, reopen_call}
use Rattle.table_measures.specs.Measures.{measure_call}
use Rattle.history.specs.Book.{Call, roll, close, reopen, measure, Reply}
use Rattle.history.specs.History.{table_call, table_run, reply_of, table_replies, FromFile}
use Rattle.history.proofs.FromFile.{from-file}
use Rattle.c_types.specs.declared.FlatTable.{FlatTable}
use Rattle.c_types.specs.declared.FlatOutcome.{FlatOutcome}
use Rattle.c_types.specs.declared.FlatMeasured.{FlatMeasured}
use Rattle.c_types.specs.Flat.{unflat_table, flat_table, flat_outcome, flat_measured, outcome_on, measured_on}
use Rattle.c_types.specs.AsItCame.{flat_table_after, CallsOwn}
use Rattle.c_types.specs.Histories.{outcome_reply, measured_reply, answer_on, flat_run, flat_replies, FlatHistory}
use Rattle.product.proofs.KindNumbers.{kind-right}
use Rattle.c_types.proofs.Undo.{undo}
use Rattle.c_types.proofs.AsItCame.{on-flat}

module _ (t : Table) where
  own : CallsOwn (flat_table t)
  own = (on-flat (flat_table t)).own (kind-right t.product.kind)

  back : unflat_table (flat_table t) ≡ t
  back = undo.table-back t

  -- each call on the flat table is the call on the table
  rolled : (date : ℕ) → outcome_on (flat_table t) (roll_call (unflat_table (flat_table t)) date) ≡ flat_outcome (roll_call t date)
  rolled date = own.rolled date ∙ ap (λ (u : Table). flat_outcome (roll_call u date)) back

  closed : (day : ℕ) → outcome_on (flat_table t) (close_call (unflat_table (flat_table t)) day) ≡ flat_outcome (close_call t day)
  closed day = own.closed day ∙ ap (λ (u : Table). flat_outcome (close_call u day)) back

  reopened : (day : ℕ) → outcome_on (flat_table t) (reopen_call (unflat_table (flat_table t)) day) ≡ flat_outcome (reopen_call t day)
  reopened day = own.reopened day ∙ ap (λ (u : Table). flat_outcome (reopen_call u day)) back

  measured : (p q price : ℕ) → measured_on (flat_table t) (measure_call (unflat_table (flat_table t)) p q price) ≡ flat_measured (measure_call t p q price)
  measured p q price = own.measured p q price ∙ ap (λ (u : Table). flat_measured (measure_call u p q price)) back

  -- the table that it gives back
  call-table : (c : Call) → flat_table_after (flat_table t) c ≡ flat_table (table_call t c).table
  call-table (roll date) = ap (λ (o : FlatOutcome). o.table) (rolled date)
  call-table (close day) = ap (λ (o : FlatOutcome). o.table) (closed day)
  call-table (reopen day) = ap (λ (o : FlatOutcome). o.table) (reopened day)
  call-table (measure p q price) = ap (λ (m : FlatMeasured). m.table) (measured p q price)

  -- and its answer
  call-reply : (c : Call) → answer_on (flat_table t) c ≡ reply_of (table_call t c)
  call-reply (roll date) = ap outcome_reply (rolled date)
  call-reply (close day) = ap outcome_reply (closed day)
  call-reply (reopen day) = ap outcome_reply (reopened day)
  call-reply (measure p q price) = ap measured_reply (measured p q price)

-- a list of calls
run-flat : (cs : List Call) (t : Table) → flat_run (flat_table t) cs ≡ flat_table (table_run t cs)
unfolding flat_run table_run
run-flat [] t = refl
run-flat (c ∷ cs) t = ap (λ (u : FlatTable). flat_run u cs) (call-table t c) ∙ run-flat cs (table_call t c).table

replies-flat : (cs : List Call) (t : Table) → flat_replies (flat_table t) cs ≡ table_replies t cs
unfolding flat_replies table_replies
replies-flat [] t = refl
replies-flat (c ∷ cs) t =
    ap (λ (u : FlatTable). answer_on (flat_table t) c ∷ flat_replies u cs) (call-table t c)
    ∙ ap (λ (r : Reply). r ∷ flat_replies (flat_table (table_call t c).table) cs) (call-reply t c)
    ∙ ap (◌∷◌ (reply_of (table_call t c))) (replies-flat cs (table_call t c).table)

-- from an accepted open on
pub flat-history : (f id : List ℕ) (date : ℕ) → (open_call f id date).refusal ≡ 0 → (cs ds : List Call) → FlatHistory f id date cs ds
flat-history f id date e cs ds =
    let h : FromFile f id date cs ds = from-file f id date e cs ds in
    let same = run-flat cs (open_call f id date).table ∙ ap (λ (t : Table). flat_table (table_run t cs)) h.opened in
    record {
      stands = ap unflat_table same ∙ undo.table-back _;
      flat = same;
      replies = replies-flat cs (open_call f id date).table ∙ ap (λ (t : Table). table_replies t cs) h.opened;
      history = h;
    }
