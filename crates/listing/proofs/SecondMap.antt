-- The second map takes no part in the front month and in listings (02, note 4: 'Last trading days and listings don't change').
-- Assumes nothing.
use mathlib.Core.Path.{◌≡◌, refl}
use mathlib.Core.List.{List}
use Prim.Native.Nat.{ℕ}
use Rattle.calendar.specs.declared.Calendar.{Calendar}
use Rattle.calendar.specs.Trading.{closed_on, trading_day}
use Rattle.calendar.proofs.SecondMap.{with_second}
use Rattle.product.specs.declared.Kind.{Kind}
use Rattle.expiry.specs.LastDays.{last_day}
use Rattle.listing.specs.Rules.{Rule, front, fresh_keys, complete}
use Rattle.listing.specs.Months.{fresh_of, all_in_cover, listing_of}

module _ (cal : Calendar) (second : List ℕ) where
  -- the front does not depend on the second map
  pub front-second : (r : Rule) (date : ℕ) → front r (with_second cal second) date ≡ front r cal date
  unfolding front last_day trading_day closed_on
  front-second r date = refl

  module _ (kind : Kind) (group : List ℕ) (date : ℕ) where
    -- the fresh maturities do not depend on the second map
    pub fresh-second : fresh_of (with_second cal second) kind group date ≡ fresh_of cal kind group date
    unfolding fresh_keys front last_day trading_day closed_on
    fresh-second = refl

    -- 16
    pub complete-second : all_in_cover (with_second cal second) kind group date ≡ all_in_cover cal kind group date
    unfolding complete fresh_keys front last_day trading_day closed_on
    complete-second = refl

    -- the listing does not depend on the second map
    pub listing-second : listing_of (with_second cal second) kind group date ≡ listing_of cal kind group date
    unfolding listing_of complete fresh_keys front last_day trading_day closed_on
    listing-second = refl
