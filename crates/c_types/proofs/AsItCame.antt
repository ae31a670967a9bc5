-- A refused call gives back the table, the state, the queue or the buffer as it came.
-- Assumes nothing.
use mathlib.Core.Path.{◌≡◌, refl, ◌∙◌, sym, ap, ap₂}
use mathlib.Core.Bool.{Bool, true, false, cond}
use mathlib.Core.List.{List, []}
use Prim.Native.Nat.{ℕ}
use lib.Dec.{eqb}
use lib.ListN.{length}
use borrow.Author.Tests.{eqb-false, ne_eqb}
use Rattle.questions.specs.Questions.{Ask, first_no, Answer, answer}
use Rattle.calendar.specs.declared.Calendar.{Calendar}
use Rattle.calendar.specs.Trading.{close_day, reopen_day}
use Rattle.product.specs.Fields.{id_right, id_of_length, kind_right, fields_right, product_right, zero_product}
use Rattle.questions.specs.Search.{every}
use Rattle.table_opening.specs.Opening.{open_asks}
use Rattle.table.specs.declared.Table.{Table}
use Rattle.table.specs.declared.Outcome.{Outcome}
use Rattle.table.specs.Table.{sound, moved, refused_with, answered, zero_table, open_call, roll_asks, roll_call, close_asks, close_call, reopen_asks, reopen_call}
use Rattle.table.proofs.TableQuestions.{roll-10, close-10}
use Rattle.table.proofs.Reopened.{reopen-10}
use Rattle.table_measures.specs.declared.Measured.{Measured}
use Rattle.table_measures.specs.Measures.{measure_call}
use Rattle.table_measures.proofs.MeasureQuestions.{measure-10}
use Rattle.table_measures.proofs.ValueKept.{given_back}
use Rattle.table_values.proofs.DayQuestions.{last-day-10, due-10}
use Rattle.table_prices.proofs.PriceQuestions.{tick-10, cash-10}
use Rattle.table_vendor.proofs.FreshEntries.{vendor-10}
use Rattle.history.specs.Book.{Call, roll, close, reopen, measure}
use Rattle.file_draft.specs.Drafts.{write_asks}
use Rattle.file_write.specs.Writing.{write_call, buffer_after}
use Rattle.file_intake.specs.declared.Intake.{Intake}
use Rattle.file_intake.specs.declared.Taken.{Taken}
use Rattle.file_intake.specs.Intake.{may_take, refused_state, take_call}
use Rattle.rounds.specs.declared.Queue.{Queue}
use Rattle.rounds.specs.declared.Handled.{Handled}
use Rattle.rounds.specs.declared.Changed.{Changed}
use Rattle.rounds.specs.Rounds.{queued, queue_of, handled, handle_asks, handle_call, changed, join_call, join_asks, leave_call, leave_asks}
use Rattle.c_types.specs.declared.FlatTable.{FlatTable}
use Rattle.c_types.specs.declared.FlatOutcome.{FlatOutcome}
use Rattle.c_types.specs.declared.FlatMeasured.{FlatMeasured}
use Rattle.c_types.specs.Flat.{unflat_product, unflat_table, flat_table, flat_outcome, flat_measured, refused_on, outcome_on, unmeasured_on, measured_on}
use Rattle.c_types.specs.AsItCame.{refusal_on, flat_table_after, CallsOwn, ReadCall, last-day, due, tick, cash, judge, read_refusal, OnFlat, AsItCame}
use Rattle.c_types.proofs.FlatAnswers.{outcome-no, measured-no}
use Rattle.c_types.proofs.Undo.{table-forth}

-- of two values by a test, where one has refusal 0: not 0, it is the other
refused-one : {A : Type 0} (refusal : A → ℕ) (test : Bool) (accepted other : A) → refusal accepted ≡ 0 → (refusal (cond test accepted other) ≡ 0 → ⊥)
    → cond test accepted other ≡ other
refused-one refusal true accepted other e no_zero = absurd (no_zero e)
refused-one refusal false accepted other e no_zero = refl

-- an accepted value or another, by whether a number is 0
module _ {A : Type 0} (n : ℕ) (accepted other : A) where
  -- it has the number where both have
  chosen-number : (number : A → ℕ) → number accepted ≡ n → number other ≡ n → number (cond (eqb n 0) accepted other) ≡ n
  chosen-number number a b = go (eqb n 0)
    where
      go : (test : Bool) → number (cond test accepted other) ≡ n
      go true = a
      go false = b

  -- it is the accepted one where the other is the same
  chosen-own : ((n ≡ 0 → ⊥) → other ≡ accepted) → cond (eqb n 0) accepted other ≡ accepted
  chosen-own same = go (eqb n 0) refl
    where
      go : (test : Bool) → eqb n 0 ≡ test → cond test accepted other ≡ accepted
      go true e = refl
      go false e = same (eqb-false n 0 e)

-- a call on a table: refused, it is the table with the number and counts 0 and 0
pub answered-same : (t : Table) (asks : List Ask) (o : Outcome) → o.refusal ≡ 0 → ((answered t asks o).refusal ≡ 0 → ⊥)
    → answered t asks o ≡ refused_with t (first_no asks)
unfolding answered
answered-same t asks o e no_zero = refused-one (λ (r : Outcome). r.refusal) (eqb (first_no asks) 0) o (refused_with t (first_no asks)) e no_zero

roll-same : (t : Table) (date : ℕ) → ((roll_call t date).refusal ≡ 0 → ⊥) → roll_call t date ≡ refused_with t (first_no (roll_asks t date))
unfolding roll_call moved
roll-same t date = answered-same t (roll_asks t date) (moved t t.calendar date) refl

close-same : (t : Table) (day : ℕ) → ((close_call t day).refusal ≡ 0 → ⊥) → close_call t day ≡ refused_with t (first_no (close_asks t day))
unfolding close_call moved
close-same t day = answered-same t (close_asks t day) (moved t (close_day t.calendar day) t.date) refl

reopen-same : (t : Table) (day : ℕ) → ((reopen_call t day).refusal ≡ 0 → ⊥) → reopen_call t day ≡ refused_with t (first_no (reopen_asks t day))
unfolding reopen_call moved
reopen-same t day = answered-same t (reopen_asks t day) (moved t (reopen_day t.calendar day) t.date) refl

open-same : (f id : List ℕ) (date : ℕ) → ((open_call f id date).refusal ≡ 0 → ⊥) → open_call f id date ≡ refused_with zero_table (first_no (open_asks f id date))
unfolding open_call
open-same f id date = answered-same zero_table (open_asks f id date) _ refl

-- equal answers have the same number
same_number : {A : Type 0} {r s : Answer A} → r ≡ s → r.refusal ≡ s.refusal
same_number {A} e = ap (λ (a : Answer A). a.refusal) e

-- 7 refuses a product of zeros
zero-not-right : product_right zero_product ≡ false
unfolding product_right fields_right id_right id_of_length every zero_product
zero-not-right = refl

module _ (t : FlatTable) where
  -- the number is the call's own
  outcome-number : (o : Outcome) → (outcome_on t o).refusal ≡ o.refusal
  unfolding outcome_on
  outcome-number o = chosen-number o.refusal (flat_outcome o) (refused_on t o.refusal) (λ (r : FlatOutcome). r.refusal) refl refl

  measured-number : (m : Measured) → (measured_on t m).refusal ≡ m.refusal
  unfolding measured_on
  measured-number m = chosen-number m.refusal (flat_measured m) (unmeasured_on t m.refusal) (λ (r : FlatMeasured). r.refusal) refl refl

  -- refused, the table is the one that came
  outcome-same : (o : Outcome) → ((outcome_on t o).refusal ≡ 0 → ⊥) → (outcome_on t o).table ≡ t
  outcome-same o no_zero = ap (λ (r : FlatOutcome). r.table) (sym (outcome-no t o (λ e. no_zero (outcome-number o ∙ e))))

  measured-same : (m : Measured) → ((measured_on t m).refusal ≡ 0 → ⊥) → (measured_on t m).table ≡ t
  measured-same m no_zero = ap (λ (r : FlatMeasured). r.table) (sym (measured-no t m (λ e. no_zero (measured-number m ∙ e))))

  table_same : (c : Call) → (refusal_on t c ≡ 0 → ⊥) → flat_table_after t c ≡ t
  table_same (roll date) = outcome-same (roll_call (unflat_table t) date)
  table_same (close day) = outcome-same (close_call (unflat_table t) day)
  table_same (reopen day) = outcome-same (reopen_call (unflat_table t) day)
  table_same (measure p q price) = measured-same (measure_call (unflat_table t) p q price)

  -- its product's kind number is a kind
  module _ (right : kind_right t.product.kind ≡ true) where
    outcome-own : (o : Outcome) (n : ℕ) → ((o.refusal ≡ 0 → ⊥) → o ≡ refused_with (unflat_table t) n) → outcome_on t o ≡ flat_outcome o
    unfolding outcome_on
    outcome-own o n same =
        chosen-own o.refusal (flat_outcome o) (refused_on t o.refusal)
        (λ no_zero.
        let s = same no_zero in
        ap (λ (r : Outcome). refused_on t r.refusal) s ∙ ap (λ (f : FlatTable). refused_on f n) (sym (table-forth t right)) ∙ sym (ap flat_outcome s))

    measured-own : (p q price : ℕ) → measured_on t (measure_call (unflat_table t) p q price) ≡ flat_measured (measure_call (unflat_table t) p q price)
    unfolding measured_on
    measured-own p q price =
        let m = measure_call (unflat_table t) p q price in
        chosen-own m.refusal (flat_measured m) (unmeasured_on t m.refusal)
        (λ no_zero.
        let g = given_back (unflat_table t) p q price no_zero in
        ap₂ (λ (n : ℕ) (f : FlatTable). record { refusal = m.refusal; price = n; table = f }) (sym g.no-price)
        (sym (table-forth t right) ∙ ap flat_table (sym g.same)))

    calls-own : CallsOwn t
    calls-own =
        let u = unflat_table t in
        record {
          rolled = λ date. outcome-own (roll_call u date) _ (roll-same u date);
          closed = λ day. outcome-own (close_call u day) _ (close-same u day);
          reopened = λ day. outcome-own (reopen_call u day) _ (reopen-same u day);
          measured = measured-own;
        }

  -- its product's kind number is no kind
  module _ (wrong : kind_right t.product.kind ≡ false) where
    unsound : sound (unflat_table t) ≡ false
    unfolding sound unflat_product
    unsound = rw (wrong, zero-not-right) refl

    ten : (c : Call) → refusal_on t c ≡ 10
    ten (roll date) = outcome-number (roll_call (unflat_table t) date) ∙ ap (λ (o : Outcome). o.refusal) (roll-10 (unflat_table t) date unsound)
    ten (close day) = outcome-number (close_call (unflat_table t) day) ∙ ap (λ (o : Outcome). o.refusal) (close-10 (unflat_table t) day unsound)
    ten (reopen day) = outcome-number (reopen_call (unflat_table t) day) ∙ ap (λ (o : Outcome). o.refusal) (reopen-10 (unflat_table t) day unsound)
    ten (measure p q price) = measured-number (measure_call (unflat_table t) p q price) ∙
        ap (λ (m : Measured). m.refusal) (sym (measure-10 (unflat_table t) p q price unsound))

    ten-read : (c : ReadCall) → read_refusal t c ≡ 10
    ten-read (last-day key) = same_number (last-day-10 (unflat_table t) key unsound)
    ten-read (due day) = same_number (due-10 (unflat_table t) day unsound)
    ten-read (tick price) = tick-10 (unflat_table t) price unsound
    ten-read (cash contracts agreed final) = same_number (cash-10 (unflat_table t) contracts agreed final unsound)
    ten-read (judge list) = same_number (vendor-10 (unflat_table t) list unsound)

  -- a refused call gives the flat table back as it came; on a table whose kind is no kind every call gets 10
  pub on-flat : OnFlat t
  on-flat = record { as-it-came = table_same; own = calls-own; no_kind = unsound; ten = ten; ten-read = ten-read }

state-same : (s : Intake) (b : List ℕ) → ((take_call s b).refusal ≡ 0 → ⊥) → (take_call s b).state ≡ s
unfolding take_call
state-same s b no_zero = ap (λ (r : Taken). r.state) (refused-one (λ (r : Taken). r.refusal) (may_take s b) _ (refused_state s) refl no_zero)

handled-same : (q : Queue) (b : ℕ) → ((handle_call q b).refusal ≡ 0 → ⊥) → ((handle_call q b).taken ≡ queue_of []) × ((handle_call q b).queue ≡ q)
unfolding handle_call
handled-same q b no_zero =
    let e = refused-one (λ (r : Handled). r.refusal) (eqb (first_no (handle_asks q b)) 0) (handled (queued q) b) _ refl no_zero in
    (ap (λ (r : Handled). r.taken) e, ap (λ (r : Handled). r.queue) e)

changed-same : (q : Queue) (asks : List Ask) (tables : List ℕ) → ((changed q asks tables).refusal ≡ 0 → ⊥) → (changed q asks tables).queue ≡ q
unfolding changed
changed-same q asks tables no_zero = ap (λ (r : Changed). r.queue) (refused-one (λ (r : Changed). r.refusal) (eqb (first_no asks) 0) _ _ refl no_zero)

joined_same : (q : Queue) (table : ℕ) → ((join_call q table).refusal ≡ 0 → ⊥) → (join_call q table).queue ≡ q
unfolding join_call
joined_same q table = changed-same q (join_asks q table) _

left-same : (q : Queue) (table : ℕ) → ((leave_call q table).refusal ≡ 0 → ⊥) → (leave_call q table).queue ≡ q
unfolding leave_call
left-same q table = changed-same q (leave_asks q table) _

buffer-same : (cal : Calendar) (records before : List ℕ) → ((write_call cal records (length before)).refusal ≡ 0 → ⊥) → buffer_after cal records before ≡ before
unfolding write_call answer buffer_after
buffer-same cal records before no_zero = rw (ne_eqb (first_no (write_asks cal records (length before))) 0 no_zero) refl

-- a refused open, take, queue call or write gives back a table of zeros, or the state, the queue or the buffer as it came
pub as-it-came : AsItCame
as-it-came =
    record {
      opened = λ f id date no_zero. ap (λ (o : Outcome). flat_table o.table) (open-same f id date no_zero);
      state = state-same;
      handled = handled-same;
      joined = joined_same;
      left = left-same;
      buffer = buffer-same;
    }
