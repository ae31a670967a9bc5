-- The days stepped back from an anchor are 0 to 6: the seven days up to it are in the cover, so one of them trades.
-- Assumes nothing.
use mathlib.Core.Path.{◌≡◌, refl}
use mathlib.Core.Bool.{true}
use mathlib.Core.List.{List}
use Prim.Native.Nat.{ℕ, ◌+◌, ◌-◌, ◌≤◌, ◌<◌}
use native.Mathlib.Omega.{arith}
use Rattle.questions.proofs.Search.{latest-le}
use Rattle.calendar.specs.declared.Calendar.{Calendar}
use Rattle.calendar.specs.Trading.{valid_cover, cover_end, in_cover, trading_day, every_week}
use Rattle.product.specs.declared.Kind.{Kind}
use Rattle.expiry.specs.LastDays.{key_of, anchor_of, last_trading_day, worked_out}
use Rattle.expiry.proofs.Fridays.{last-is}
use Rattle.listing.specs.Months.{cover_rule, week_into_cover}
use Rattle.listing.specs.SteppedBack.{SteppedBack}
use Rattle.listing.proofs.OfKinds.{rule-deep, six-back}

module _ (cal : Calendar) (kind : Kind) (group : List ℕ) where
  -- the day and the days stepped back make up the anchor
  day-and-back : (k : ℕ) → (worked_out cal kind group k).day + (worked_out cal kind group k).back ≡ anchor_of kind group k
  unfolding worked_out last_trading_day
  day-and-back k = omega (arith, last-is cal (anchor_of kind group k), latest-le (trading_day cal) (anchor_of kind group k))

  anchor-less-day : (k : ℕ) → (worked_out cal kind group k).back ≡ anchor_of kind group k - last_trading_day cal kind group k
  unfolding worked_out
  anchor-less-day k = refl

  module _ (valid : valid_cover cal.cover ≡ true) (weeks : every_week cal ≡ true) where
    at-most-six : (date : ℕ) → in_cover cal.cover date ≡ true → week_into_cover kind cal.cover date ≡ true
        → (k : ℕ) → key_of kind date ≤ k → k < key_of kind (cover_end cal.cover) → (worked_out cal kind group k).back ≤ 6
    unfolding cover_rule
    at-most-six date e w k a b =
        let d = rule-deep cal.cover kind group valid date e w k a b in
        omega (arith, anchor-less-day k, six-back cal kind group weeks k d.0 d.1)

  -- the days stepped back are the anchor less the day; in a valid cover that passes 6, at most 6 from a date on that passes 24
  pub stepped-back : SteppedBack cal kind group
  stepped-back = record { equal = anchor-less-day; made = day-and-back; six = at-most-six }
