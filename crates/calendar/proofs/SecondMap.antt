-- The second map takes no part in trading days and in questions 6, 14 and 15 (02, note 4: 'Last trading days and listings don't change').
-- Assumes nothing.
use mathlib.Core.Path.{◌≡◌, refl, ◌∙◌, sym}
use mathlib.Core.Bool.{true, false, ◌&&◌}
use mathlib.Core.List.{List, []}
use Prim.Native.Nat.{ℕ}
use Rattle.calendar.specs.declared.Calendar.{Calendar}
use Rattle.calendar.specs.Bits.{bit_at}
use Rattle.calendar.specs.Trading.{calendar_of_maps, in_cover, slot_of, closed_on, trading_day, in_second_map, exchange_day, every_week, close_day}

-- the calendar with another second map
abbrev pub with_second : Calendar → List ℕ → Calendar
with_second cal second = calendar_of_maps cal.cover cal.closed second

module _ (cal : Calendar) (second : List ℕ) where
  -- 14
  pub trading-second : (d : ℕ) → trading_day (with_second cal second) d ≡ trading_day cal d
  unfolding trading_day closed_on
  trading-second d = refl

  -- 6
  pub weeks-second : every_week (with_second cal second) ≡ every_week cal
  unfolding every_week trading_day closed_on
  weeks-second = refl

  -- 15
  pub weeks-closed-second : (d : ℕ) → every_week (close_day (with_second cal second) d) ≡ every_week (close_day cal d)
  unfolding every_week trading_day closed_on close_day
  weeks-closed-second d = refl

-- an exchange day, by a test of trading days that has the first map alone
module _ (cal : Calendar) (d : ℕ) where
  -- a trading day, tested with an empty second map, is an exchange day
  pub exchange-trading : trading_day (with_second cal []) d ≡ true → exchange_day cal d ≡ true
  unfolding exchange_day
  exchange-trading t = rw (sym (trading-second cal [] d) ∙ t)

  -- a day that is no trading day is an exchange day exactly where it is in the cover and its bit in the second map is 1
  pub exchange-other : trading_day (with_second cal []) d ≡ false → exchange_day cal d ≡ (in_cover cal.cover d && bit_at cal.exchange (slot_of cal.cover d))
  unfolding exchange_day in_second_map
  exchange-other t = rw (sym (trading-second cal [] d) ∙ t)
