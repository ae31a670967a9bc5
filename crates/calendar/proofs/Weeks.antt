-- Weeks that are known to hold a trading day, and the test of every seven days.
-- Assumes nothing.
use mathlib.Core.Path.{◌≡◌, refl, ◌∙◌, sym, ap}
use mathlib.Core.Bool.{Bool, true, false, not, ◌&&◌, cond}
use mathlib.Core.Logic.{◌⊎◌, inl, inr}
use Prim.Native.Nat.{ℕ, ◌+◌, ◌-◌, ◌*◌, ◌≤◌, ◌<◌}
use lib.Dec.{eqb}
use borrow.Author.Tests.{eqb-true, eq-eqb}
use native.Mathlib.Nat.{le_refl, eq-or-lt_of_le}
use native.Mathlib.Omega.{arith}
use Rattle.questions.specs.Search.{every, some, latest}
use Rattle.questions.proofs.Bools.{clash, is_false, lt-or-ge}
use Rattle.questions.proofs.Search.{every-at, every-all, every-not, some_at, some_one, latest-ge}
use Rattle.calendar.specs.declared.Calendar.{Calendar}
use Rattle.calendar.specs.Trading.{cover_start, cover_end, trading_day, some_trades, every_week}

-- the runs of seven days that begin on a day s or later and end before a day e hold a trading day
abbrev pub weeks_in : Calendar → ℕ → ℕ → Bool
weeks_in cal s e = every (e - s - 6) (λ k. some_trades cal (s + k) 7)

-- the code's test of a day that does not trade and is the first of its week
pub idle-first : (b : Bool) (x y : ℕ) → (not b && eqb x y) ≡ true → (b ≡ false) × (x ≡ y)
idle-first true x y e = clash e refl
idle-first false x y e = (refl, eqb-true x y e)

-- where the code's test says no, a day that does not trade is not the first of its week
pub not-idle-first : (b : Bool) (x y : ℕ) → (not b && eqb x y) ≡ false → b ≡ false → x ≡ y → ⊥
not-idle-first true x y e q r = clash refl q
not-idle-first false x y e q r = clash (eq-eqb x y r) e

-- one of the seven days from the k-th day after s on passes
abbrev week : (ℕ → Bool) → ℕ → ℕ → Bool
week f s k = some 7 (λ i. f (s + k + i))

-- the loop's state: every week that begins at s or later and before `first` holds a day that passes, and of the week from `first` on the days after d
-- do not pass
pub record Passed (f : ℕ → Bool) (s e first d : ℕ) : Type 0 where
  -- the week begins at s or later
  pub from : s ≤ first
  -- the week begins at e or earlier
  pub to : first ≤ e
  -- the day d is the week's first day or later
  pub near : first ≤ d
  -- the day d is the week's last day or earlier
  pub within : d ≤ first + 6
  -- each week that begins at s or later and before `first` holds a day that passes
  pub passed : (k : ℕ) → s + k < first → week f s k ≡ true
  -- no day of the week after d passes
  pub idle : (x : ℕ) → d < x → x ≤ first + 6 → f x ≡ false

module _ (f : ℕ → Bool) (s e : ℕ) where
  -- at the start the week begins at s and d is its last day
  pub passed_start : s ≤ e → Passed f s e s (s + 6)
  passed_start h =
      record {
        from = le_refl s;
        to = h;
        near = omega arith;
        within = le_refl (s + 6);
        passed = λ k l. absurd (omega arith);
        idle = λ x a b. absurd (omega arith);
      }

  module _ (first d : ℕ) (h : Passed f s e first d) (l : first + 7 ≤ e) where
    -- the day passes: it is in the weeks that begin up to it
    passing : f d ≡ true → Passed f s e (d + 1) (d + 7)
    passing t =
        record {
          from = omega (arith, h.from, h.near);
          to = omega (arith, h.within);
          near = omega arith;
          within = omega arith;
          passed = λ k b. side k b (lt-or-ge (s + k) first);
          idle = λ x a b. absurd (omega arith);
        }
      where
        side : (k : ℕ) → s + k < d + 1 → (s + k < first) ⊎ (first ≤ s + k) → week f s k ≡ true
        side k b (inl r) = h.passed k r
        side k b (inr r) =
            let at : s + k + (d - (s + k)) ≡ d = omega arith in
            some_at (λ i. f (s + k + i)) 7 (d - (s + k)) (ap f at ∙ t) (omega (arith, h.within))

    -- the day does not pass, and is not the week's first
    failing : f d ≡ false → (d ≡ first → ⊥) → Passed f s e first (d - 1)
    failing t n =
        record {
          from = h.from;
          to = h.to;
          near = omega (arith, h.near);
          within = omega (arith, h.within);
          passed = h.passed;
          idle =
              λ x a b. side x b (eq-or-lt_of_le (later x a));
        }
      where
        later : (x : ℕ) → d - 1 < x → d ≤ x
        later x a = omega arith

        side : (x : ℕ) → x ≤ first + 6 → (d ≡ x) ⊎ (d < x) → f x ≡ false
        side x b (inl q) = ap f (sym q) ∙ t
        side x b (inr q) = h.idle x q b

    -- after a day that passes the week begins on the next day; after one that does not, d is the day before
    pub passed-step : (b : Bool) → b ≡ f d → (b ≡ false → d ≡ first → ⊥) → Passed f s e (cond b (d + 1) first) (cond b (d + 7) (d - 1))
    passed-step true q n = passing (sym q)
    passed-step false q n = failing (sym q) (n refl)

    -- the loop ends: what is left gets less
    pub passed-less : (b : Bool) → (b ≡ false → d ≡ first → ⊥)
        → 8 * (e - cond b (d + 1) first) + (cond b (d + 7) (d - 1) - cond b (d + 1) first) < 8 * (e - first) + (d - first)
    passed-less true n = omega (arith, h.near, h.within)
    passed-less false n = unlike (n refl)
      where
        unlike : (d ≡ first → ⊥) → 8 * (e - first) + (d - 1 - first) < 8 * (e - first) + (d - first)
        unlike n = omega (arith, h.near)

    -- no day of the week passes
    pub passed-fails : f d ≡ false → d ≡ first → every (e - s - 6) (week f s) ≡ false
    passed-fails t q = every-not (week f s) (e - s - 6) (first - s) (is_false (week f s (first - s)) none) (omega (arith, h.from))
      where
        side : (x : ℕ) → x ≤ first + 6 → (d ≡ x) ⊎ (d < x) → f x ≡ false
        side x b (inl q) = ap f (sym q) ∙ t
        side x b (inr q) = h.idle x q b

        none : week f s (first - s) ≡ true → ⊥
        none w =
            let p = some_one (λ i. f (s + (first - s) + i)) 7 w in
            let x = s + (first - s) + p.at in
            let a : d ≤ x = omega (arith, h.from) in
            let b : x ≤ first + 6 = omega (arith, h.from, p.below) in
            clash p.passes (side x b (eq-or-lt_of_le a))

  -- where fewer than seven days are left before e, each week from s to e holds a day that passes
  pub passed-ends : (first d : ℕ) → Passed f s e first d → e < first + 7 → every (e - s - 6) (week f s) ≡ true
  passed-ends first d h l = every-all (week f s) (e - s - 6) (λ k b. h.passed k (omega (arith, h.from)))

-- every seven consecutive days wholly in the cover hold a trading day
pub every-week : (cal : Calendar) → every_week cal ≡ true → (s : ℕ) → cover_start cal.cover ≤ s → s + 7 ≤ cover_end cal.cover → some_trades cal s 7 ≡ true
unfolding every_week
every-week cal t s a b =
    let k = s - cover_start cal.cover in
    let r : cover_start cal.cover + k ≡ s = omega arith in
    ap (λ (x : ℕ). some_trades cal x 7) (sym r) ∙ every-at (λ k. some_trades cal (cover_start cal.cover + k) 7) _ k t (omega arith)

-- so the latest trading day at or before a day is at most six days before it, where those seven days are in the cover
pub within-six : (cal : Calendar) → every_week cal ≡ true → (d : ℕ) → cover_start cal.cover + 6 ≤ d → d < cover_end cal.cover
    → d ≤ latest (trading_day cal) d + 6
within-six cal t d a b =
    let p = some_one (λ i. trading_day cal (d - 6 + i)) 7 (every-week cal t (d - 6) (omega arith) (omega arith)) in
    omega (arith, latest-ge (trading_day cal) d (d - 6 + p.at) (omega arith) p.passes)

-- with more trading days every week still holds one
pub weeks-more : (cal cal' : Calendar) → cal'.cover ≡ cal.cover → ((d : ℕ) → trading_day cal' d ≡ true → trading_day cal d ≡ true) → every_week cal' ≡ true
    → every_week cal ≡ true
unfolding every_week
weeks-more cal cal' c more e =
    every-all (λ k. some_trades cal (cover_start cal.cover + k) 7) (cover_end cal.cover - cover_start cal.cover - 6)
    (λ k l. each (cover_start cal.cover + k)
    (every-week cal' e (cover_start cal.cover + k) (omega (arith, ap cover_start c)) (omega (arith, ap cover_end c))))
  where
    each : (x : ℕ) → some 7 (λ i. trading_day cal' (x + i)) ≡ true → some 7 (λ i. trading_day cal (x + i)) ≡ true
    each x s =
        let q = some_one (λ i. trading_day cal' (x + i)) 7 s in
        some_at (λ i. trading_day cal (x + i)) 7 q.at (more (x + q.at) q.passes) q.below
