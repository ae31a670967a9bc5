-- The second map takes no part in last trading days (02, note 4: 'Last trading days and listings don't change').
-- Assumes nothing.
use mathlib.Core.Path.{◌≡◌, refl}
use mathlib.Core.List.{List}
use Prim.Native.Nat.{ℕ}
use Rattle.calendar.specs.declared.Calendar.{Calendar}
use Rattle.calendar.specs.Trading.{closed_on, trading_day}
use Rattle.calendar.proofs.SecondMap.{with_second}
use Rattle.product.specs.declared.Kind.{Kind}
use Rattle.expiry.specs.LastDays.{last_day, last_trading_day, worked_out}

module _ (cal : Calendar) (second : List ℕ) where
  -- the last trading day of an anchor does not depend on the second map
  pub last-day-second : (anchor : ℕ) → last_day (with_second cal second) anchor ≡ last_day cal anchor
  unfolding last_day trading_day closed_on
  last-day-second anchor = refl

  -- the last trading day of a key does not depend on the second map
  pub last-trading-day-second : (kind : Kind) (group : List ℕ) (k : ℕ) → last_trading_day (with_second cal second) kind group k ≡ last_trading_day cal kind group k
  unfolding last_trading_day last_day trading_day closed_on
  last-trading-day-second kind group k = refl

  -- with the days stepped back (02, note 2)
  pub worked-second : (kind : Kind) (group : List ℕ) (k : ℕ) → worked_out (with_second cal second) kind group k ≡ worked_out cal kind group k
  unfolding worked_out last_trading_day last_day trading_day closed_on
  worked-second kind group k = refl
