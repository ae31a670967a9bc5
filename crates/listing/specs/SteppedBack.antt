-- How far a last trading day was moved (02, note 2).
-- Assumes nothing.
use Rattle.std.specs.Prelude.{ℕ, ◌+◌, ◌-◌, ◌≤◌, ◌<◌, ◌≡◌, true, List}
use Rattle.calendar.specs.declared.Calendar.{Calendar}
use Rattle.calendar.specs.Trading.{valid_cover, cover_end, in_cover, every_week}
use Rattle.product.specs.declared.Kind.{Kind}
use Rattle.expiry.specs.LastDays.{key_of, anchor_of, last_trading_day, worked_out}
use Rattle.listing.specs.Months.{week_into_cover}

-- 'the number of days it stepped back from the anchor, 0 to 6, equal to anchor − day'
pub record SteppedBack (cal : Calendar) (kind : Kind) (group : List ℕ) : Type 0 where
  -- 'equal to anchor − day',
  -- and the day plus that number is the anchor, so that the minus cuts nothing off
  pub equal : (k : ℕ) → (worked_out cal kind group k).back ≡ anchor_of kind group k - last_trading_day cal kind group k
  pub made : (k : ℕ) → (worked_out cal kind group k).day + (worked_out cal kind group k).back ≡ anchor_of kind group k
  -- '0 to 6',
  -- with 1 to 16 years and question 6 answered yes: of every month of the cover; of the weekly Fridays from a date on that passes 24
  pub six : valid_cover cal.cover ≡ true → every_week cal ≡ true → (date : ℕ) → in_cover cal.cover date ≡ true → week_into_cover kind cal.cover date ≡ true
      → (k : ℕ) → key_of kind date ≤ k → k < key_of kind (cover_end cal.cover) → (worked_out cal kind group k).back ≤ 6
