-- The code's search for the front.
-- Assumes nothing.
use mathlib.Core.Path.{◌≡◌, refl}
use mathlib.Core.Bool.{Bool, ◌&&◌}
use mathlib.Core.List.{List}
use Prim.Native.Nat.{ℕ, ◌-◌}
use lib.Dec.{leb}
use Rattle.questions.specs.Search.{first_from}
use Rattle.questions.proofs.Search.{first-same}
use Rattle.calendar.specs.declared.Calendar.{Calendar}
use Rattle.calendar.specs.Trading.{cover_end}
use Rattle.product.specs.declared.Kind.{Kind}
use Rattle.product.specs.declared.Kind.TheVariants.{Future, Option}
use Rattle.product.specs.declared.ListingText.TheVariants.{Of2008, Of2005}
use Rattle.product.specs.declared.Term.TheVariants.{Months12, Months24, Months60, Weeks5}
use Rattle.product.specs.Fields.{kind_number}
use Rattle.expiry.specs.LastDays.{key_of, last_trading_day}
use Rattle.listing.specs.Rules.{widest, front}
use Rattle.listing.specs.Months.{set_at, row_of, sets_of, places_of, cover_rule, rule_of}

-- the first step of every kind takes a key, so its set is that of the first place
first-set : (kind : Kind) → widest (places_of (row_of kind) (sets_of kind)) ≡ set_at (kind_number kind) 0
unfolding places_of
first-set (Future Of2008) = refl
first-set (Future Of2005) = refl
first-set (Option Months12) = refl
first-set (Option Months24) = refl
first-set (Option Months60) = refl
first-set (Option Weeks5) = refl

module _ (cal : Calendar) (kind : Kind) (group : List ℕ) (date : ℕ) where
  -- the key is in the first step's set, and its last trading day is not before the date
  abbrev pub may_be_front : ℕ → Bool
  may_be_front k = set_at (kind_number kind) 0 k && leb date (last_trading_day cal kind group k)

  -- the search from a key on
  abbrev pub searched : ℕ → ℕ → ℕ
  searched end key = first_from may_be_front end (end - key) key

  -- from the date's own key on, up to the cover's end, it finds the front
  pub front-is : front (rule_of cal kind group) cal date ≡ searched (key_of kind (cover_end cal.cover)) (key_of kind date)
  unfolding front cover_rule last_trading_day
  front-is =
      first-same (λ k. widest (places_of (row_of kind) (sets_of kind)) k && leb date (last_trading_day cal kind group k)) may_be_front _ _ _
      (λ k. rw (first-set kind))
