-- The third Friday by arithmetic, the code's test of a weekly Friday, and the last trading day as the latest trading day.
-- Assumes nothing.
use mathlib.Core.Path.{◌≡◌, refl, sym, ap, ◌∙◌}
use mathlib.Core.Bool.{Bool, true, false, not, cond}
use mathlib.Core.Logic.{◌⊎◌}
use Prim.Native.Nat.{ℕ, zero, suc, ◌+◌, ◌-◌, ◌%◌}
use native.Mathlib.Omega.{arith}
use lib.Dec.{eqb}
use borrow.Author.Tests.{eq-eqb, ne_eqb}
use Rattle.questions.specs.Search.{latest, first_from}
use Rattle.questions.proofs.Search.{first-is, latest-here, latest-back, latest-zero, latest-but}
use Rattle.days.specs.Gregorian.{weekday_of}
use Rattle.days.specs.Dates.{first_of, month_of}
use Rattle.calendar.specs.declared.Calendar.{Calendar}
use Rattle.calendar.specs.Trading.{trading_day, close_day}
use Rattle.calendar.proofs.Closing.{trading-before, trading-other}
use Rattle.expiry.specs.LastDays.{last_day, friday, third_friday, weekly_friday}

-- the days from d to the next Friday
abbrev wait : ℕ → ℕ
wait d = (11 - weekday_of d) % 7

first-friday : (d : ℕ) → first_from friday d 7 d ≡ d + wait d
first-friday d =
    first-is friday d 7 d (wait d) (omega arith) (λ i h. ne_eqb (weekday_of (d + i)) 4 (omega arith)) (eq-eqb (weekday_of (d + wait d)) 4 (omega arith))

-- the third Friday of a month is two weeks after the first Friday on or after the month's first day
pub third-is : (m : ℕ) → third_friday m ≡ first_of m + wait (first_of m) + 14
unfolding third_friday
third-is m = ap (λ (d : ℕ). d + 14) (first-friday (first_of m))

-- the anchor, if it is a trading day, else the latest before it: the latest at or before it
pub last-is : (cal : Calendar) (a : ℕ) → last_day cal a ≡ latest (trading_day cal) a
unfolding last_day
last-is cal zero = go (trading_day cal 0)
  where
    go : (b : Bool) → cond b 0 (latest (trading_day cal) 0) ≡ latest (trading_day cal) 0
    go true = sym (latest-zero (trading_day cal) 0 (omega arith))
    go false = refl
last-is cal (suc a) = go (trading_day cal (suc a)) refl
  where
    go : (b : Bool) → trading_day cal (suc a) ≡ b → cond b (suc a) (latest (trading_day cal) (suc a - 1)) ≡ latest (trading_day cal) (suc a)
    go true e = sym (latest-here (trading_day cal) (suc a) e)
    go false e = latest-back (trading_day cal) (suc a) (omega arith) e

-- a closure moves the last trading day of an anchor only where it was the closed day
pub last-but : (cal : Calendar) (d a : ℕ) → (last_day cal a ≡ d) ⊎ (last_day (close_day cal d) a ≡ last_day cal a)
last-but cal d a =
    rw (last-is cal a, last-is (close_day cal d) a)
    (latest-but (trading_day cal) (trading_day (close_day cal d)) d (trading-before cal d) (trading-other cal d) a)

-- the code's test of a weekly Friday
pub no-friday : (d w : ℕ) → w ≡ weekday_of d → (w ≡ 4 → ⊥) → false ≡ weekly_friday d
unfolding weekly_friday
no-friday d w e n = rw (ne_eqb (weekday_of d) 4 (λ q. n (e ∙ q)))

-- a Friday is a weekly Friday exactly where it is not the third Friday of its month
pub not_third : (d w t : ℕ) → w ≡ weekday_of d → w ≡ 4 → t ≡ third_friday (month_of d) → not (eqb d t) ≡ weekly_friday d
unfolding weekly_friday
not_third d w t e q r = rw (eq-eqb (weekday_of d) 4 (sym e ∙ q), r)
