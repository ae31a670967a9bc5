-- Closures on one date move the front by one maturity at most: the argument for months and for weekly Fridays alike.
-- Assumes nothing.
use mathlib.Core.Path.{◌≡◌, ap}
use mathlib.Core.Bool.{true}
use mathlib.Core.List.{List}
use mathlib.Core.Logic.{◌⊎◌, inl, inr}
use Prim.Native.Nat.{ℕ, ◌+◌, ◌≤◌, ◌<◌}
use native.Mathlib.Omega.{arith}
use Rattle.questions.proofs.Bools.{lt-or-ge}
use Rattle.calendar.specs.declared.Cover.{Cover}
use Rattle.calendar.specs.declared.Calendar.{Calendar}
use Rattle.calendar.specs.Trading.{valid_cover, cover_start, cover_end, in_cover, every_week}
use Rattle.calendar.proofs.Weeks.{within-six}
use Rattle.product.specs.declared.Kind.{Kind}
use Rattle.expiry.proofs.Fridays.{last-is}
use Rattle.listing.specs.Rules.{Rule, last_day_of, widest, front}
use Rattle.listing.specs.Months.{cover_rule, week_into_cover}
use Rattle.listing.proofs.Lawful.{Lawful, front-most, front-passes, day-past, day-ahead, day-anchor}
use Rattle.listing.proofs.OfKinds.{rule-begins, rule-deep, rule-apart}
use Rattle.history_reach.specs.Reach.{Spaced}

-- the rule of every kind is spaced on a date of the cover that passes 24
pub rule-spaced : (c : Cover) (kind : Kind) (group : List ℕ) → valid_cover c ≡ true → (date : ℕ) → in_cover c date ≡ true → week_into_cover kind c date ≡ true
    → Spaced (cover_rule c kind group) c date
unfolding cover_rule
rule-spaced c kind group valid date dated week = record {
  apart = rule-apart c kind group valid;
  deep = rule-deep c kind group valid date dated week;
  begins = λ cal. (rule-begins c kind group cal date dated).1;
}

module _ (r : Rule) (w : Lawful r) (c : Cover) (date : ℕ) (s : Spaced r c date) where
  -- under a calendar whose weeks all hold a trading day a key from the date on ends at most six days before its anchor
  pub six-near : (cal : Calendar) → cal.cover ≡ c → every_week cal ≡ true → (k : ℕ) → r.start date ≤ k → k < r.beyond → r.anchor k ≤ last_day_of r cal k + 6
  six-near cal e weeks k a b =
      omega (
        arith,
        last-is cal (r.anchor k),
        within-six cal weeks (r.anchor k) (omega (arith, ap cover_start e, (s.deep k a b).0)) (omega (arith, ap cover_end e, (s.deep k a b).1)),
      )

  module _ (cal cal' : Calendar) (e : cal'.cover ≡ c) (weeks : every_week cal' ≡ true) where
    -- of two keys from the front on, the later is not before the front under a calendar whose weeks all hold a trading day
    narrow : (j k : ℕ) → j < k → widest r.places j ≡ true → widest r.places k ≡ true → front r cal date ≤ j → k < front r cal' date → ⊥
    narrow j k l p q a b =
        let h : k < r.beyond = omega (arith, front-most r w cal' date) in
        omega (
          arith,
          s.apart j k l h p q,
          day-ahead r w cal date j (omega arith) a,
          day-anchor r w cal j,
          day-past r w cal' date k h q b,
          six-near cal' e weeks k (omega (arith, s.begins cal)) h,
        )

    -- so a front between the two is one of them
    pub between : (cal₁ : Calendar) → front r cal date ≤ front r cal₁ date → front r cal₁ date ≤ front r cal' date
        → (front r cal₁ date ≡ front r cal date) ⊎ (front r cal₁ date ≡ front r cal' date)
    between cal₁ a b = go (lt-or-ge (front r cal date) (front r cal₁ date)) (lt-or-ge (front r cal₁ date) (front r cal' date))
      where
        m : front r cal' date ≤ r.beyond
        m = front-most r w cal' date

        go : (front r cal date < front r cal₁ date) ⊎ (front r cal₁ date ≤ front r cal date)
            → (front r cal₁ date < front r cal' date) ⊎ (front r cal' date ≤ front r cal₁ date)
            → (front r cal₁ date ≡ front r cal date) ⊎ (front r cal₁ date ≡ front r cal' date)
        go (inl x) (inl y) =
            absurd
            (narrow (front r cal date) (front r cal₁ date) x
            (front-passes r w cal date (omega (arith, m))).0 (front-passes r w cal₁ date (omega (arith, m))).0 (omega arith) y)
        go (inl x) (inr y) = inr (omega arith)
        go (inr x) y = inl (omega arith)
