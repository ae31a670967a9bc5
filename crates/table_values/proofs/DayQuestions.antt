-- What the calls that return days come to, question by question.
-- Assumes nothing.
use mathlib.Core.Path.{◌≡◌}
use mathlib.Core.Bool.{true, false}
use Prim.Native.Nat.{ℕ}
use Rattle.questions.specs.Questions.{first_no}
use Rattle.questions.proofs.Asks.{accepted, refused}
use Rattle.calendar.specs.Trading.{in_cover, nth_exchange_day}
use Rattle.product.specs.Settlement.{settlement_days}
use Rattle.expiry.specs.declared.LastDay.{LastDay}
use Rattle.expiry.specs.LastDays.{worked_out}
use Rattle.table.specs.declared.Table.{Table}
use Rattle.table_numbering.specs.Numbering.{is_listed}
use Rattle.table.specs.Table.{listed_in, sound}
use Rattle.table_values.specs.Values.{no_day, no_last_day, last_day_asks, last_day_call, due_day, due_asks, due_call}

-- the last trading day of a listed key, by its first question answered no
module _ (t : Table) (key : ℕ) where
  -- the last day asked of an unsound table gives refusal 10
  pub last-day-10 : sound t ≡ false → last_day_call t key ≡ no_last_day 10
  unfolding last_day_call first_no
  last-day-10 a = refused (last_day_asks t key) _ _ 9 (rw a)

  module _ (a : sound t ≡ true) where
    -- the last day of a maturity that is not listed gives refusal 18
    pub last-day-18 : is_listed (listed_in t) key ≡ false → last_day_call t key ≡ no_last_day 18
    unfolding last_day_call first_no
    last-day-18 b = refused (last_day_asks t key) _ _ 17 (rw (a, b))

    -- the last day of a listed maturity is the one worked out by the rules
    pub last-day-yes : is_listed (listed_in t) key ≡ true → (last : LastDay) → last ≡ worked_out t.calendar t.product.kind t.product.group key
        → last_day_call t key ≡ record { refusal = 0; value = last }
    unfolding last_day_call first_no
    last-day-yes b last q = rw q (accepted (last_day_asks t key) _ _ (rw (a, b)))

-- the code's due day is the definition's
pub due-is : (t : Table) (day n d : ℕ) → n ≡ settlement_days t.product.kind t.product.group → d ≡ nth_exchange_day t.calendar n day → d ≡ due_day t day
unfolding due_day
due-is t day n d q r = rw (r, q)

-- the due day, by its first question answered no
module _ (t : Table) (day : ℕ) where
  -- a due day asked of an unsound table gives refusal 10
  pub due-10 : sound t ≡ false → due_call t day ≡ no_day 10
  unfolding due_call due_asks first_no
  due-10 a = refused (due_asks t day) _ _ 9 (rw a)

  module _ (a : sound t ≡ true) where
    -- the due day of a day outside the cover gives refusal 11
    pub due-11 : in_cover t.calendar.cover day ≡ false → due_call t day ≡ no_day 11
    unfolding due_call due_asks first_no
    due-11 b = refused (due_asks t day) _ _ 10 (rw (a, b))

    module _ (b : in_cover t.calendar.cover day ≡ true) (due : ℕ) (q : due ≡ due_day t day) where
      -- a due day outside the cover gives refusal 17
      pub due-17 : in_cover t.calendar.cover due ≡ false → due_call t day ≡ no_day 17
      unfolding due_call due_asks first_no
      due-17 e = refused (due_asks t day) _ _ 16 (rw (a, b, ← q, e))

      -- a due day in the cover is the answer
      pub due-yes : in_cover t.calendar.cover due ≡ true → due_call t day ≡ record { refusal = 0; value = due }
      unfolding due_call due_asks first_no
      due-yes e = rw q (accepted (due_asks t day) _ _ (rw (a, b, ← q, e)))
