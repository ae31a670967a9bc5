-- The rule of every kind is lawful, and its last trading days lie at most six days before their anchors.
-- Assumes nothing.
use mathlib.Core.Path.{◌≡◌, refl}
use mathlib.Core.Bool.{Bool, true, false, not, ◌||◌, cond}
use mathlib.Core.List.{List}
use Prim.Native.Nat.{ℕ, suc, ◌+◌, ◌-◌, ◌≤◌, ◌<◌}
use native.Mathlib.Omega.{arith}
use lib.Dec.{eqb, leb}
use lib.ListN.{length, get_or, replicate}
use borrow.Author.Tests.{eqb-true, leb-true}
use Rattle.questions.proofs.Bools.{and-fst}
use Rattle.questions.proofs.Search.{latest-le}
use Rattle.days.specs.Gregorian.{weekday_of}
use Rattle.days.specs.Dates.{month_of, year_start}
use Rattle.days.proofs.Years.{year-start-most}
use Rattle.calendar.specs.declared.Cover.{Cover}
use Rattle.calendar.specs.declared.Calendar.{Calendar}
use Rattle.calendar.specs.Trading.{valid_cover, cover_start, cover_end, in_cover, trading_day, every_week}
use Rattle.calendar.proofs.Covered.{cover-facts}
use Rattle.calendar.proofs.Weeks.{within-six}
use Rattle.product.specs.declared.Kind.{Kind}
use Rattle.product.specs.declared.Kind.TheVariants.{Future, Option}
use Rattle.product.specs.declared.ListingText.TheVariants.{Of2008, Of2005}
use Rattle.product.specs.declared.Term.TheVariants.{Months12, Months24, Months60, Weeks5}
use Rattle.product.specs.Fields.{is_weekly}
use Rattle.expiry.specs.LastDays.{third_friday, weekly_friday, month_anchor, key_of, anchor_of, last_day, last_trading_day}
use Rattle.expiry.proofs.Fridays.{last-is}
use Rattle.expiry.proofs.Keys.{key-most}
use Rattle.listing.specs.Rules.{widest, front, count_from, keys_before, fresh_keys}
use Rattle.listing.specs.Months.{names2005, in_set, places_of, row_of, sets_of, places_of_kind, counted_for, cover_rule, keys_of, rule_of, week_into_cover}
use Rattle.listing.proofs.OpenPlaces.{nested-first}
use Rattle.listing.proofs.KeyCounts.{count_most}
use Rattle.listing.proofs.Lawful.{Lawful, risen, front-from, front-most, key-at, keys-rise}
use Rattle.listing.proofs.Monthly.{Chain, nested-row, month-chain, anchor-next, anchor-rises, anchor-own, months, own-month, month-deep}

-- one set for all steps
same-chain : (set : ℕ → Bool) → Chain (λ k. true) (replicate 4 set)
same-chain set = (λ k e. refl, (λ k e. e, (λ k e. e, (λ k e. e, tt))))

-- the sets of every kind's row
chain-of : (kind : Kind) → Chain (λ k. true) (sets_of kind)
chain-of (Future Of2008) = month-chain
chain-of (Future Of2005) = same-chain (in_set names2005)
chain-of (Option Months12) = month-chain
chain-of (Option Months24) = month-chain
chain-of (Option Months60) = month-chain
chain-of (Option Weeks5) = same-chain weekly_friday

module _ (kind : Kind) (group : List ℕ) where
  key-rises : (k : ℕ) → anchor_of kind group k ≤ anchor_of kind group (suc k)
  unfolding anchor_of
  key-rises k = go (is_weekly kind)
    where
      go : (b : Bool) → cond b k (month_anchor group k) ≤ cond b (suc k) (month_anchor group (suc k))
      go true = omega arith
      go false = anchor-rises group k

  key-own : (k d : ℕ) → k < key_of kind d → anchor_of kind group k < d
  unfolding anchor_of key_of
  key-own k d h = go (is_weekly kind) h
    where
      go : (b : Bool) → k < cond b d (month_of d) → cond b k (month_anchor group k) < d
      go true h = h
      go false h = anchor-own group k d h

key_counts : (kind : Kind) (k : ℕ) → widest (places_of (row_of kind) (sets_of kind)) k ≡ true → counted_for kind k ≡ true
unfolding places_of counted_for
key_counts (Future text) k e = refl
key_counts (Option Months12) k e = refl
key_counts (Option Months24) k e = refl
key_counts (Option Months60) k e = refl
key_counts (Option Weeks5) k e = e

-- a weekly Friday is a Friday
friday-of : (d : ℕ) → weekly_friday d ≡ true → weekday_of d ≡ 4
unfolding weekly_friday
friday-of d e = eqb-true (weekday_of d) 4 (and-fst (eqb (weekday_of d) 4) (not (eqb d (third_friday (month_of d)))) e)

module _ (c : Cover) (kind : Kind) (group : List ℕ) where
  -- the rule of every cover, kind and group is lawful
  pub rule-lawful : Lawful (cover_rule c kind group)
  unfolding cover_rule
  rule-lawful = record {
    nested = nested-first (λ k. true) (places_of (row_of kind) (sets_of kind)) (nested-row (λ k. true) (row_of kind) (sets_of kind) (chain-of kind));
    rising = key-rises kind group;
    own = key-own kind group;
    counts = key_counts kind;
  }

  -- the places of the rule are those of its kind
  pub rule-places : length (cover_rule c kind group).places ≡ places_of_kind kind
  unfolding cover_rule
  rule-places = refl

  -- no key of a cover passes its end, a day that is not after 31 December 2099
  pub rule-beyond : (cover_rule c kind group).beyond ≤ 36525
  unfolding cover_rule cover_end
  rule-beyond = key-most kind (year_start (c.first_year + c.years)) (year-start-most (c.first_year + c.years))

  -- so not more of them are counted before the front
  pub rule-before : (cal : Calendar) (date : ℕ) → keys_before (cover_rule c kind group) cal date ≤ 36525
  unfolding keys_before
  rule-before cal date =
      let r = cover_rule c kind group in
      omega (arith, rule-beyond, front-most r rule-lawful cal date, count_most r.counted (front r cal date - r.first) r.first)

  -- all that are counted
  pub rule-keys : count_from (cover_rule c kind group).counted ((cover_rule c kind group).beyond - (cover_rule c kind group).first) (cover_rule c kind group).first
      ≡ keys_of c kind
  unfolding cover_rule keys_of
  rule-keys = refl

  -- the front on a date of the cover is not before the date's own key, nor that before the cover's first
  pub rule-begins : (cal : Calendar) (date : ℕ) → in_cover c date ≡ true
      → ((cover_rule c kind group).first ≤ (cover_rule c kind group).start date) × ((cover_rule c kind group).start date ≤ front (cover_rule c kind group) cal date)
  unfolding cover_rule key_of
  rule-begins cal date e = (go₁ (is_weekly kind), front-from (cover_rule c kind group) rule-lawful cal date (go₂ (is_weekly kind)))
    where
      go₁ : (b : Bool) → cond b (cover_start c) (month_of (cover_start c)) ≤ cond b date (month_of date)
      go₁ true = (cover-facts c date e).0
      go₁ false = (own-month c date e).0

      go₂ : (b : Bool) → cond b date (month_of date) ≤ cond b (cover_end c) (month_of (cover_end c))
      go₂ true = omega (arith, cover-facts c date e)
      go₂ false = (own-month c date e).1

  -- 'the first day' of 24: the anchors of the keys from a date on that passes it, and the six days before each, lie in the cover
  pub rule-deep : valid_cover c ≡ true → (date : ℕ) → in_cover c date ≡ true → week_into_cover kind c date ≡ true
      → (k : ℕ) → (cover_rule c kind group).start date ≤ k → k < (cover_rule c kind group).beyond
      → (cover_start c + 6 ≤ anchor_of kind group k) × (anchor_of kind group k < cover_end c)
  unfolding cover_rule week_into_cover anchor_of key_of
  rule-deep valid date e w k a b = go (is_weekly kind) w a b
    where
      go : (x : Bool) → (not x || leb (cover_start c + 7) date) ≡ true → cond x date (month_of date) ≤ k → k < cond x (cover_end c) (month_of (cover_end c))
          → (cover_start c + 6 ≤ cond x k (month_anchor group k)) × (cond x k (month_anchor group k) < cover_end c)
      go true w a b = (omega (arith, leb-true (cover_start c + 7) date w), b)
      go false w a b = month-deep c valid group k (omega (arith, own-month c date e)) b

  -- the anchors of two keys of the widest set are a week apart at least
  pub rule-apart : valid_cover c ≡ true → (j k : ℕ) → j < k → k < (cover_rule c kind group).beyond
      → widest (cover_rule c kind group).places j ≡ true → widest (cover_rule c kind group).places k ≡ true → anchor_of kind group j + 7 ≤ anchor_of kind group k
  unfolding cover_rule anchor_of key_of places_of
  rule-apart valid j k l h a b = go kind h a b
    where
      in-months : k < month_of (cover_end c) → month_anchor group j + 7 ≤ month_anchor group k
      in-months h = omega (
        arith,
        (months c valid).last,
        anchor-next group j (omega (arith, (months c valid).last)),
        risen (month_anchor group) (anchor-rises group) (suc j) k l,
      )

      go : (kind : Kind) → k < cond (is_weekly kind) (cover_end c) (month_of (cover_end c))
          → widest (places_of (row_of kind) (sets_of kind)) j ≡ true → widest (places_of (row_of kind) (sets_of kind)) k ≡ true
          → cond (is_weekly kind) j (month_anchor group j) + 7 ≤ cond (is_weekly kind) k (month_anchor group k)
      go (Future text) h a b = in-months h
      go (Option Months12) h a b = in-months h
      go (Option Months24) h a b = in-months h
      go (Option Months60) h a b = in-months h
      go (Option Weeks5) h a b = omega (arith, friday-of j a, friday-of k b)

-- a cover has at most 192 months
pub months-most : (c : Cover) (kind : Kind) → valid_cover c ≡ true → is_weekly kind ≡ false → keys_of c kind ≤ 192
unfolding keys_of key_of
months-most c kind valid e =
    let n = key_of kind (cover_end c) - key_of kind (cover_start c) in
    let m : n ≡ month_of (cover_end c) - month_of (cover_start c) = rw e in
    omega (arith, (months c valid).most, count_most (counted_for kind) n (key_of kind (cover_start c)))

module _ (cal : Calendar) (kind : Kind) (group : List ℕ) (weeks : every_week cal ≡ true) where
  near : (k : ℕ) → cover_start cal.cover + 6 ≤ anchor_of kind group k → anchor_of kind group k < cover_end cal.cover
      → anchor_of kind group k ≤ last_day cal (anchor_of kind group k) + 6
  near k a b = rw (last-is cal (anchor_of kind group k)) (within-six cal weeks (anchor_of kind group k) a b)

  -- where the anchor and the six days before it are in the cover, the last trading day lies at most six days before it
  pub six-back : (k : ℕ) → cover_start cal.cover + 6 ≤ anchor_of kind group k → anchor_of kind group k < cover_end cal.cover
      → anchor_of kind group k ≤ last_trading_day cal kind group k + 6
  unfolding last_trading_day
  six-back k a b = near k a b

  -- the last trading days of a listing rise strictly
  pub days-strict : valid_cover cal.cover ≡ true → (date : ℕ) → in_cover cal.cover date ≡ true → week_into_cover kind cal.cover date ≡ true
      → (i j : ℕ) → i < j → j < length (fresh_keys (rule_of cal kind group) cal date)
      → last_trading_day cal kind group (get_or (fresh_keys (rule_of cal kind group) cal date) i 0) < last_trading_day cal kind group
      (get_or (fresh_keys (rule_of cal kind group) cal date) j 0)
  unfolding last_trading_day
  days-strict valid date e w i j l h =
      let r = rule_of cal kind group in
      let f = rule-lawful cal.cover kind group in
      let x = get_or (fresh_keys r cal date) i 0 in
      let y = get_or (fresh_keys r cal date) j 0 in
      let a = key-at r f cal date i (omega arith) in
      let b = key-at r f cal date j h in
      let d = rule-deep cal.cover kind group valid date e w y (omega (arith, b.from, rule-begins cal.cover kind group cal date e)) b.below in
      omega (
        arith,
        last-is cal (anchor_of kind group x),
        latest-le (trading_day cal) (anchor_of kind group x),
        rule-apart cal.cover kind group valid x y (keys-rise r f cal date i j l h) b.below a.wide b.wide,
        near y d.0 d.1,
      )
