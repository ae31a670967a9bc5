-- The steps back from an anchor.
-- Assumes nothing.
use mathlib.Core.Path.{◌≡◌, refl, sym, ap, ap₂, ◌∙◌}
use mathlib.Core.Bool.{Bool, true, false, cond}
use mathlib.Core.List.{List}
use Prim.Native.Nat.{ℕ, zero, suc, ◌+◌, ◌-◌, ◌≤◌, ◌<◌}
use native.Mathlib.Omega.{arith}
use Rattle.questions.specs.Search.{latest}
use Rattle.questions.proofs.Search.{latest-here, latest-back, latest-zero}
use Rattle.calendar.specs.declared.Calendar.{Calendar}
use Rattle.calendar.specs.Trading.{trading_day}
use Rattle.product.specs.declared.Kind.{Kind}
use Rattle.product.specs.Settlement.{italian}
use Rattle.expiry.specs.declared.LastDay.{LastDay}
use Rattle.expiry.specs.LastDays.{third_friday, month_anchor, last_day, last_trading_day, stepped_to, worked_out}

-- the state of the loop: the day looked for is the latest trading day before the day, and the steps made lead from the anchor to the day
pub record Stepping (f : ℕ → Bool) (anchor day back : ℕ) : Type 0 where
  -- the latest trading day before the day is the latest one before the anchor
  pub same : latest f (day - 1) ≡ latest f (anchor - 1)
  -- the day plus the steps made is the anchor
  pub made : day + back ≡ anchor

module _ (f : ℕ → Bool) (anchor : ℕ) where
  -- the loop starts at the anchor with no step made
  pub starts : Stepping f anchor anchor 0
  starts = record { same = refl; made = omega arith }

  module _ (day back : ℕ) (s : Stepping f anchor day back) where
    -- a step back to a day that is not a trading day
    pub again : 0 < day → f (day - 1) ≡ false → Stepping f anchor (day - 1) (back + 1)
    again h t = record { same = go (day - 1) refl ∙ s.same; made = omega (arith, s.made) }
      where
        go : (x : ℕ) → day - 1 ≡ x → latest f (day - 1 - 1) ≡ latest f (day - 1)
        go zero e = let z : day - 1 - 1 ≡ day - 1 = omega arith in ap (latest f) z
        go (suc x) e = latest-back f (day - 1) (omega arith) t

    -- a step back to a trading day
    pub found : 0 < day → f (day - 1) ≡ true → ◌≡◌ {A = LastDay} (record { day = day - 1; back = back + 1 }) (stepped_to anchor (latest f (anchor - 1)))
    found h t =
        let d : day - 1 ≡ latest f (anchor - 1) = sym (latest-here f (day - 1) t) ∙ s.same in
        let b : back + 1 ≡ anchor - latest f (anchor - 1) = omega (arith, s.made) in
        ap₂ (λ (x y : ℕ). record { day = x; back = y }) d b

    -- no day is left
    pub none : day ≤ 0 → ◌≡◌ {A = LastDay} (record { day = day; back = back }) (stepped_to anchor (latest f (anchor - 1)))
    none h =
        let d : day ≡ latest f (anchor - 1) = omega (arith, s.same, latest-zero f (day - 1) (omega arith)) in
        let b : back ≡ anchor - latest f (anchor - 1) = omega (arith, s.made) in
        ap₂ (λ (x y : ℕ). record { day = x; back = y }) d b

-- 'The last trading day is the anchor if it is a trading day, else the latest trading day before it'
module _ (cal : Calendar) (anchor : ℕ) where
  -- where the anchor is a trading day, it is the last trading day, with no day stepped back
  pub there : trading_day cal anchor ≡ true → ◌≡◌ {A = LastDay} (record { day = anchor; back = 0 }) (stepped_to anchor (last_day cal anchor))
  unfolding last_day
  there t =
      let z : 0 ≡ anchor - anchor = omega arith in
      rw (t, ← z)

  -- where the anchor is no trading day, the last trading day is the latest trading day before it
  pub before : trading_day cal anchor ≡ false → stepped_to anchor (latest (trading_day cal) (anchor - 1)) ≡ stepped_to anchor (last_day cal anchor)
  unfolding last_day
  before t = rw t

-- the Italian exception
pub exception : (group : List ℕ) (month friday anchor : ℕ) → friday ≡ third_friday month → anchor ≡ cond (italian group) (friday - 1) friday
    → anchor ≡ month_anchor group month
unfolding month_anchor
exception group month friday anchor e q = q ∙ rw e

-- the day of what is worked out
pub worked-day : (cal : Calendar) (kind : Kind) (group : List ℕ) (k : ℕ) (l : LastDay) → l ≡ worked_out cal kind group k
    → l.day ≡ last_trading_day cal kind group k
unfolding worked_out
worked-day cal kind group k l e = ap (λ (x : LastDay). x.day) e
