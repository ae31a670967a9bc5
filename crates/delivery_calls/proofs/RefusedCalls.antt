-- A refused call leaves the table as it was, and question 10 has the same answer after any call as before it.
-- Assumes nothing.
use mathlib.Core.Path.{◌≡◌, refl, sym, ap, ◌∙◌}
use mathlib.Core.Bool.{Bool, true, false, cond}
use mathlib.Core.List.{List}
use Prim.Native.Nat.{ℕ}
use lib.Dec.{eqb}
use Rattle.questions.specs.Questions.{Ask, first_no}
use Rattle.table.specs.declared.Table.{Table}
use Rattle.table.specs.declared.Outcome.{Outcome}
use Rattle.table.specs.Table.{sound, moved, refused_with, answered, roll_call, close_call, reopen_call, roll_asks, close_asks, reopen_asks}
use Rattle.table.proofs.TableQuestions.{roll-10, close-10}
use Rattle.table.proofs.Reopened.{reopen-10}
use Rattle.table_measures.specs.declared.Measured.{Measured}
use Rattle.table_measures.specs.Measures.{measure_asks, measured_by, unmeasured, measure_call}
use Rattle.table_measures.proofs.MeasureQuestions.{measure-10}
use Rattle.history.specs.Book.{Call, roll, close, reopen, measure}
use Rattle.history.specs.History.{table_call}
use Rattle.history.proofs.SoundTables.{call-sound}

answered-same : (t : Table) (asks : List Ask) (x : Outcome) → ((answered t asks x).refusal ≡ 0 → ⊥) → x.refusal ≡ 0 → (answered t asks x).table ≡ t
unfolding answered
answered-same t asks x n z = go (eqb (first_no asks) 0) n
  where
    go : (b : Bool) → ((cond b x (refused_with t (first_no asks))).refusal ≡ 0 → ⊥) → (cond b x (refused_with t (first_no asks))).table ≡ t
    go true m = absurd (m z)
    go false m = refl

measured-same : (t : Table) (p q price : ℕ) → ((measure_call t p q price).refusal ≡ 0 → ⊥) → (measure_call t p q price).table ≡ t
unfolding measure_call
measured-same t p q price n = go (eqb (first_no (measure_asks t p q price)) 0) n
  where
    go : (b : Bool) → ((cond b (measured_by t p q price) (unmeasured t (first_no (measure_asks t p q price)))).refusal ≡ 0 → ⊥)
        → (cond b (measured_by t p q price) (unmeasured t (first_no (measure_asks t p q price)))).table ≡ t
    go true m = absurd (m refl)
    go false m = refl

-- a refused call leaves the table as it was
pub refused-same : (t : Table) (c : Call) → ((table_call t c).refusal ≡ 0 → ⊥) → (table_call t c).table ≡ t
unfolding roll_call close_call reopen_call moved
refused-same t (roll date) n = answered-same t (roll_asks t date) (moved t t.calendar date) n refl
refused-same t (close day) n = answered-same t (close_asks t day) _ n refl
refused-same t (reopen day) n = answered-same t (reopen_asks t day) _ n refl
refused-same t (measure p q price) n = measured-same t p q price n

-- a table that is not sound stays as it is
unsound-same : (t : Table) → sound t ≡ false → (c : Call) → (table_call t c).table ≡ t
unsound-same t e (roll date) = ap (λ (o : Outcome). o.table) (roll-10 t date e)
unsound-same t e (close day) = ap (λ (o : Outcome). o.table) (close-10 t day e)
unsound-same t e (reopen day) = ap (λ (o : Outcome). o.table) (reopen-10 t day e)
unsound-same t e (measure p q price) = sym (ap (λ (m : Measured). m.table) (measure-10 t p q price e))

-- question 10 after a call
pub tenth-same : (t : Table) (c : Call) → sound (table_call t c).table ≡ sound t
tenth-same t c = go (sound t) refl
  where
    go : (b : Bool) → sound t ≡ b → sound (table_call t c).table ≡ sound t
    go true e = call-sound t e c ∙ sym e
    go false e = ap sound (unsound-same t e c)
