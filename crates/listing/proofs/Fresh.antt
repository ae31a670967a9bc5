-- The fresh listing as the code makes it.
-- Assumes nothing.
use mathlib.Core.Path.{◌≡◌, ◌∙◌, sym, ap}
use mathlib.Core.Bool.{true}
use mathlib.Core.List.{List}
use Prim.Native.Nat.{ℕ, ◌≤◌}
use lib.Dec.{lit≤}
use lib.ListN.{length, take, replicate, length-map}
use lib.Seq.{take_at}
use borrow.Author.Tests.{eqb-true}
use Rattle.calendar.specs.declared.Calendar.{Calendar}
use Rattle.calendar.specs.Trading.{cover_end}
use Rattle.product.specs.declared.Kind.{Kind}
use Rattle.product.specs.declared.Kind.TheVariants.{Future, Option}
use Rattle.product.specs.declared.ListingText.TheVariants.{Of2008, Of2005}
use Rattle.product.specs.declared.Term.TheVariants.{Months12, Months24, Months60, Weeks5}
use Rattle.product.specs.Fields.{kind_number}
use Rattle.listing.specs.declared.Maturity.{Maturity}
use Rattle.listing.specs.declared.Listing.{Listing}
use Rattle.listing.specs.Rules.{front, fresh_keys, complete, unused, places15}
use Rattle.expiry.specs.LastDays.{key_of, last_trading_day, worked_out}
use Rattle.listing.specs.Months.{places_of, places_of_kind, cover_rule, rule_of, fresh_of, all_in_cover, listing_of}
use Rattle.listing.proofs.ListLoops.{rest, grown, whole_is, rest-room}

-- no kind has more than fifteen places
pub places-most : (kind : Kind) → places_of_kind kind ≤ 15
unfolding rest
places-most kind = rest-room kind

-- and every kind has one
pub places-least : (kind : Kind) → 1 ≤ places_of_kind kind
unfolding places_of
places-least (Future Of2008) = lit≤ tt
places-least (Future Of2005) = lit≤ tt
places-least (Option Months12) = lit≤ tt
places-least (Option Months24) = lit≤ tt
places-least (Option Months60) = lit≤ tt
places-least (Option Weeks5) = lit≤ tt

-- a key as the code lists it
abbrev pub mat_of : Calendar → Kind → List ℕ → ℕ → Maturity
mat_of cal kind group k = record { key = k; day = (worked_out cal kind group k).day; back = (worked_out cal kind group k).back; number = 0 }

module _ (cal : Calendar) (kind : Kind) (group : List ℕ) (date : ℕ) where
  -- the whole walk of the code is the definition's listing
  pub listing-is : (k e from : ℕ) → k ≡ kind_number kind → e ≡ key_of kind (cover_end cal.cover) → from ≡ front (rule_of cal kind group) cal date
      → grown (mat_of cal kind group) e (length (rest k 0)) 0 (replicate 15 unused) (rest k 0) from ≡ listing_of cal kind group date
  unfolding listing_of complete fresh_keys cover_rule rest last_trading_day worked_out
  listing-is k e from q p s =
      rw (q, p, s) (whole_is (mat_of cal kind group) (key_of kind (cover_end cal.cover)) (kind_number kind) (front (rule_of cal kind group) cal date)
      (rest-room kind))

-- what the code's listing says: complete or not, and the fresh maturities in the places that are used
pub complete-is : (cal : Calendar) (kind : Kind) (group : List ℕ) (date : ℕ) (l : Listing) → l ≡ listing_of cal kind group date
    → l.complete ≡ all_in_cover cal kind group date
unfolding listing_of
complete-is cal kind group date l e = ap (λ (x : Listing). x.complete) e

-- the maturities of the code's listing are the fresh maturities, in 15 places
pub places_is : (cal : Calendar) (kind : Kind) (group : List ℕ) (date : ℕ) (l : Listing) → l ≡ listing_of cal kind group date
    → l.maturities ≡ places15 (fresh_of cal kind group date)
unfolding listing_of
places_is cal kind group date l e = ap (λ (x : Listing). x.maturities) e

-- a complete fresh listing fills the places that are used
pub fresh-listed : (cal : Calendar) (kind : Kind) (group : List ℕ) (date n : ℕ) → n ≡ places_of_kind kind → all_in_cover cal kind group date ≡ true
    → take n (places15 (fresh_of cal kind group date)) ≡ fresh_of cal kind group date
unfolding places15 complete cover_rule
fresh-listed cal kind group date n q e =
    take_at (fresh_of cal kind group date) _ n
    (length-map (fresh_keys (rule_of cal kind group) cal date) _ ∙ eqb-true _ _ e ∙ sym q)
