-- The listed months of a future of 2005 in the words of the request (02, note 1; 003).
-- Assumes nothing.
use Rattle.std.specs.Prelude.{ℕ, ◌≡◌, ◌&&◌, List, [], ◌∷◌, ◌++◌, eqb, leb, length, replicate}
use Rattle.questions.specs.Search.{one_of, first_from}
use Rattle.days.specs.Dates.{month_of}
use Rattle.calendar.specs.declared.Calendar.{Calendar}
use Rattle.calendar.specs.Trading.{cover_end}
use Rattle.product.specs.declared.Kind.TheVariants.{Future}
use Rattle.product.specs.declared.ListingText.TheVariants.{Of2005}
use Rattle.expiry.specs.LastDays.{last_trading_day}
use Rattle.listing.specs.Rules.{front, taken, fresh_keys}
use Rattle.listing.specs.Months.{quarters, names2005, in_set, rule_of, all_in_cover}

-- 'the next' so many months of some names, from a month on; those beyond the cover are left out
abbrev pub next_months : ℕ → ℕ → List ℕ → ℕ → List ℕ
next_months beyond count names front = taken beyond (replicate count (in_set names)) front

-- 'the next four of March, June, September, December, and with them the next April, May and July. All count from the front ..'
unfoldable pub of2005 : ℕ → ℕ → List ℕ
of2005 beyond front =
    next_months beyond 4 quarters front
    ++ (next_months beyond 1 (4 ∷ []) front
    ++ (next_months beyond 1 (5 ∷ []) front
    ++ next_months beyond 1 (7 ∷ []) front))

-- 'the front, the first month of those seven names whose last trading day is not before the date';
-- the first month beyond the cover where the cover has none
unfoldable pub front2005 : Calendar → List ℕ → ℕ → ℕ
front2005 cal group date =
    first_from (λ m. in_set names2005 m && leb date (last_trading_day cal (Future Of2005) group m)) (month_of (cover_end cal.cover))
    (month_of (cover_end cal.cover)) 0

-- the months of the sentence on a date, from that front
abbrev pub months2005 : Calendar → List ℕ → ℕ → List ℕ
months2005 cal group date = of2005 (month_of (cover_end cal.cover)) (front2005 cal group date)

-- 'Show that this is the same as the next seven months of that set':
-- for every front and every end of the cover
pub record SameMonths (beyond front : ℕ) : Type 0 where
  pub each : (m : ℕ) → one_of (of2005 beyond front) m ≡ one_of (next_months beyond 7 names2005 front) m
  -- and as many of them, so none stands twice
  pub as_many : length (of2005 beyond front) ≡ length (next_months beyond 7 names2005 front)

-- so the listed months of a future of 2005 are those of the sentence
pub record Listed2005 (cal : Calendar) (group : List ℕ) (date : ℕ) : Type 0 where
  -- 'All count from the front, the first month of those seven names whose last trading day is not before the date'
  pub from : front (rule_of cal (Future Of2005) group) cal date ≡ front2005 cal group date
  pub each : (m : ℕ) → one_of (months2005 cal group date) m ≡ one_of (fresh_keys (rule_of cal (Future Of2005) group) cal date) m
  pub as_many : length (months2005 cal group date) ≡ length (fresh_keys (rule_of cal (Future Of2005) group) cal date)
  -- 16 is answered yes where all seven are in the cover
  pub all : all_in_cover cal (Future Of2005) group date ≡ eqb (length (months2005 cal group date)) 7
