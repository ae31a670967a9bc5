-- The walk over the days of the cover, a day at a time.
-- Assumes nothing.
use Prim.Native.Nat.{ℕ, suc, ◌+◌, ◌-◌, ◌/◌, ◌≤◌, ◌<◌}
use mathlib.Core.Path.{◌≡◌, ◌∙◌, sym, ap}
use mathlib.Core.List.{[]}
use mathlib.Core.Bool.{true, false, and-false}
use native.Mathlib.Omega.{arith}
use lib.Dec.{ltb}
use borrow.Author.Tests.{lt-ltb, le-ltb}
use Rattle.days.specs.Gregorian.{weekday_of}
use Rattle.calendar.specs.declared.Calendar.{Calendar}
use Rattle.questions.specs.Questions.{Answer}
use Rattle.questions.proofs.Asks.{no-asks, first-yes, accepted}
use Rattle.calendar.specs.declared.Cover.{Cover}
use Rattle.calendar.specs.Trading.{valid_cover, cover_start, cover_end, every_week, close_day, open_calendar, zero_calendar}
use Rattle.calendar_synthetic.specs.Generated.{next_value, value_at, closes_at, calendar_at, made, made_from, made_asks, made_call}

module _ (day value : ℕ) where
  -- a Saturday or Sunday takes no new value
  pub value-kept : 5 ≤ weekday_of day → value ≡ value_at day value
  unfolding value_at
  value-kept h = rw (le-ltb (weekday_of day) 5 h)

  -- a Monday to Friday takes the next value
  pub value-new : weekday_of day < 5 → next_value value ≡ value_at day value
  unfolding value_at
  value-new h = rw (lt-ltb (weekday_of day) 5 h)

module _ (cal : Calendar) (day value : ℕ) where
  -- a Saturday or Sunday leaves the calendar as it is
  pub weekend : 5 ≤ weekday_of day → cal ≡ calendar_at cal day value
  unfolding calendar_at closes_at
  weekend h = rw (le-ltb (weekday_of day) 5 h)

  -- a value whose quotient by 2^24 is 8 or more leaves the calendar as it is
  pub undrawn : 8 ≤ value / 16777216 → cal ≡ calendar_at cal day value
  unfolding calendar_at closes_at
  undrawn h = rw (le-ltb (value / 16777216) 8 h, and-false (ltb (weekday_of day) 5))

  -- a day whose closing leaves a run of seven days without a trading day is not closed
  pub spared : every_week (close_day cal day) ≡ false → cal ≡ calendar_at cal day value
  unfolding calendar_at closes_at
  spared e = rw (e, and-false (ltb (value / 16777216) 8), and-false (ltb (weekday_of day) 5))

  -- a Monday to Friday is closed where its value is drawn and every run of seven days keeps a trading day
  pub closes : weekday_of day < 5 → value / 16777216 < 8 → every_week (close_day cal day) ≡ true → close_day cal day ≡ calendar_at cal day value
  unfolding calendar_at closes_at
  closes w d e = rw (lt-ltb (weekday_of day) 5 w, lt-ltb (value / 16777216) 8 d, e)

module _ (end day value : ℕ) (cal : Calendar) where
  -- from the end on, no day is visited and the calendar stays as it is
  pub made-end : end ≤ day → made (end - day) day value cal ≡ cal
  unfolding made
  made-end h =
      let e : end - day ≡ 0 = omega arith in
      ap (λ (n : ℕ). made n day value cal) e

  -- before the end, the day is visited and the making goes on from the next day with the new value and calendar
  pub made-next : day < end → made (end - (day + 1)) (day + 1) (value_at day value) (calendar_at cal day (value_at day value)) ≡ made (end - day) day value cal
  unfolding made
  made-next h =
      let e : end - day ≡ suc (end - (day + 1)) = omega arith in
      let d : day + 1 ≡ suc day = omega arith in
      ap (λ (k : ℕ). made (end - (day + 1)) k (value_at day value) (calendar_at cal day (value_at day value))) d
      ∙ sym (ap (λ (n : ℕ). made n day value cal) e)

-- the loop has come to the cover's end
pub walked : (seed : ℕ) (cover : Cover) (end start day value : ℕ) (first cal : Calendar) → end ≡ cover_end cover → start ≡ cover_start cover
    → first ≡ open_calendar cover → valid_cover cover ≡ true → end ≤ day → made (end - day) day value cal ≡ made (end - start) start seed first
    → ◌≡◌ {A = Answer Calendar} (record { refusal = 0; value = cal }) (made_call seed cover)
unfolding made_call
walked seed cover end start day value first cal e s f v h i =
    let whole : cal ≡ made_from seed cover = sym (made-end end day value cal h) ∙ i ∙ rw (e, s, f) in
    ap (λ (c : Calendar). record { refusal = 0; value = c }) whole
    ∙ sym (accepted (made_asks cover) zero_calendar (made_from seed cover) (first-yes 4 [] v ∙ no-asks))
