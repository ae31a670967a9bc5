-- Due compared with what it answered before notes 4 and 5: a day that was answered passes 10, 11 and 17 still, and with a second map of zeros the
-- exchange days are the trading days.
-- Assumes nothing.
use mathlib.Core.Path.{◌≡◌, refl, sym}
use mathlib.Core.Bool.{Bool, true, false}
use mathlib.Core.List.{[], ◌∷◌}
use Prim.Native.Nat.{ℕ}
use native.Mathlib.Omega.{arith}
use Rattle.questions.specs.Questions.{ask, first_no, answer}
use Rattle.questions.proofs.Asks.{none-no}
use Rattle.calendar.specs.Trading.{in_cover, trading_day}
use Rattle.calendar.proofs.NextExchangeDay.{old-days}
use Rattle.product.specs.Settlement.{settlement_days}
use Rattle.table.specs.declared.Table.{Table}
use Rattle.table.specs.Table.{sound}
use Rattle.table_values.specs.Values.{due_day, due_asks, due_asks_before, due_call, old_due_day, ZeroSecond, OldDueDays, DueKept}
use Rattle.table_values.proofs.DayQuestions.{due-yes}

module _ (t : Table) (day : ℕ) where
  -- what was answered with the due day of now
  answered-before : (due : ℕ) → due ≡ due_day t day → first_no (due_asks_before t day due) ≡ 0 → due_call t day ≡ record { refusal = 0; value = due }
  unfolding due_asks_before
  answered-before due q e =
      let (a, e1) = none-no 9 (sound t) _ e in
      let (b, e2) = none-no 10 (in_cover t.calendar.cover day) _ e1 in
      let (d, e3) = none-no 13 (trading_day t.calendar day) _ e2 in
      let (f, e4) = none-no 16 (in_cover t.calendar.cover due) [] e3 in
      due-yes t day a b due q f

  -- with 14 asked too, a trading day gets the same answer
  as_before : trading_day t.calendar day ≡ true → due_call t day ≡ answer (due_asks_before t day (due_day t day)) 0 (due_day t day)
  unfolding due_call due_asks due_asks_before answer first_no
  as_before e = rw e

  never-14 : (due_call t day).refusal ≡ 14 → ⊥
  unfolding due_call due_asks answer first_no
  never-14 e = go (sound t) (in_cover t.calendar.cover day) (in_cover t.calendar.cover (due_day t day)) e
    where
      go : (a b c : Bool) → first_no (ask 10 a ∷ ask 11 b ∷ ask 17 c ∷ []) ≡ 14 → ⊥
      go false b c e = omega arith
      go true false c e = omega arith
      go true true false e = omega arith
      go true true true e = omega arith

  -- days that were answered before note 5 keep their due day, trading days keep their answer, and due never gives 14
  pub due-kept : DueKept t day
  due-kept = record { kept = answered-before (due_day t day) refl; as_before = as_before; never-14 = never-14 }

module _ (t : Table) where
  old-days-due : ZeroSecond t → (day : ℕ) → due_day t day ≡ old_due_day t day
  unfolding due_day old_due_day
  old-days-due zero day = old-days t.calendar (λ s. zero s) (settlement_days t.product.kind t.product.group) day

  -- a table whose second map is zero has its old due days, and due answers with them where it did before
  pub old-due : OldDueDays t
  old-due = record { days = old-days-due; answers = λ zero day e. answered-before t day (old_due_day t day) (sym (old-days-due zero day)) e }
