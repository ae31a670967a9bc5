-- The weekly Fridays before a day, by arithmetic: a Friday for every seven days, less the third Fridays.
-- Assumes nothing.
use mathlib.Core.Path.{◌≡◌, refl, sym, ap, ◌∙◌, fun_ext}
use mathlib.Core.Bool.{Bool, true, false, not, ◌&&◌}
use mathlib.Core.Logic.{◌⊎◌, inl, inr}
use Prim.Native.Nat.{ℕ, zero, suc, ◌+◌, ◌-◌, ◌/◌, ◌%◌, ◌≤◌, ◌<◌}
use native.Mathlib.Nat.{zero-add}
use native.Mathlib.Omega.{arith}
use lib.Dec.{eqb, ltb}
use borrow.Author.Tests.{eqb-true, eqb-false, lt-ltb, le-ltb}
use Rattle.questions.proofs.Bools.{lt-or-ge}
use Rattle.days.specs.Gregorian.{weekday_of, first_day}
use Rattle.days.specs.Dates.{month_of}
use Rattle.days.proofs.MonthOfDay.{length-bounds, first-suc, first-zero, first_to, month-is, month-past, Holds, month-holds}
use Rattle.expiry.specs.LastDays.{third_friday, weekly_friday}
use Rattle.expiry.proofs.Fridays.{third-is}
use Rattle.product.specs.declared.Kind.{Kind}
use Rattle.product.specs.Fields.{is_weekly}
use Rattle.listing.specs.Rules.{count_from}
use Rattle.listing.specs.Months.{counted_for}
use Rattle.listing.proofs.Walks.{bit}
use Rattle.listing.proofs.KeyCounts.{count_none, count_add, count-end, count-all}

-- the third Friday of a month is a Friday, and lies in it
third-friday : (m : ℕ) → third_friday m % 7 ≡ 6
third-friday m = omega (arith, third-is m)

third-in : (m : ℕ) → m ≤ 1200 → (first_day m + 14 ≤ third_friday m) × (third_friday m ≤ first_day m + 20)
third-in m h = (omega (arith, third-is m, first_to m h), omega (arith, third-is m, first_to m h))

-- 1 where the month's third Friday is before the day
abbrev passed : ℕ → ℕ → ℕ
passed m x = bit (ltb (third_friday m) x)

-- one day more: a Friday is a weekly one or its month's third
one-day : (x : ℕ) → bit (weekly_friday x) + bit (eqb x (third_friday (month_of x))) ≡ suc x / 7 - x / 7
unfolding weekly_friday
one-day x = go (eqb (weekday_of x) 4) refl (eqb x (third_friday (month_of x))) refl
  where
    go : (a : Bool) → eqb (weekday_of x) 4 ≡ a → (b : Bool) → eqb x (third_friday (month_of x)) ≡ b → bit (a && not b) + bit b ≡ suc x / 7 - x / 7
    go true e true f = let q : weekday_of x ≡ 4 = eqb-true (weekday_of x) 4 e in omega arith
    go true e false f = let q : weekday_of x ≡ 4 = eqb-true (weekday_of x) 4 e in omega arith
    go false e true f =
        let n : weekday_of x ≡ 4 → ⊥ = eqb-false (weekday_of x) 4 e in
        let q : x ≡ third_friday (month_of x) = eqb-true x (third_friday (month_of x)) f in
        absurd (n (omega (arith, third-friday (month_of x))))
    go false e false f = let n : weekday_of x ≡ 4 → ⊥ = eqb-false (weekday_of x) 4 e in omega arith

-- in its own month the third Friday is passed once the day is after it
passed-next : (m x : ℕ) → passed m (suc x) ≡ passed m x + bit (eqb x (third_friday m))
passed-next m x = go (lt-or-ge (third_friday m) x) (eqb x (third_friday m)) refl
  where
    go : (third_friday m < x) ⊎ (x ≤ third_friday m) → (b : Bool) → eqb x (third_friday m) ≡ b → passed m (suc x) ≡ passed m x + bit b
    go (inl l) true e = let q : x ≡ third_friday m = eqb-true x (third_friday m) e in absurd (omega arith)
    go (inl l) false e = rw (lt-ltb (third_friday m) (suc x) (omega arith), lt-ltb (third_friday m) x l)
    go (inr l) true e =
        let q : x ≡ third_friday m = eqb-true x (third_friday m) e in
        rw (lt-ltb (third_friday m) (suc x) (omega arith), le-ltb (third_friday m) x l)
    go (inr l) false e =
        let n : x ≡ third_friday m → ⊥ = eqb-false x (third_friday m) e in
        rw (le-ltb (third_friday m) (suc x) (omega arith), le-ltb (third_friday m) x l)

-- the Fridays before a day are the weekly ones, one for each month that is over, and the month's own third once it is passed
pub fridays-before : (x : ℕ) → count_from weekly_friday x 0 + month_of x + passed (month_of x) x ≡ x / 7
fridays-before zero =
    let m : month_of 0 ≡ 0 = month-is 0 0 (omega arith) (omega (arith, first-zero)) (omega (arith, first-suc 0, length-bounds 0)) in
    rw (m, count_none weekly_friday 0) (omega (arith, ap bit (le-ltb (third_friday 0) 0 (omega arith))))
fridays-before (suc x) = go (lt-or-ge x 36525) (fridays-before x)
  where
    not_third : (b : Bool) → eqb x (third_friday (month_of x)) ≡ b → third_friday (month_of x) < x → bit b ≡ 0
    not_third true e n = let q : x ≡ third_friday (month_of x) = eqb-true x (third_friday (month_of x)) e in absurd (omega arith)
    not_third false e n = refl

    -- in the same month
    same : month_of (suc x) ≡ month_of x → count_from weekly_friday x 0 + month_of x + passed (month_of x) x ≡ x / 7
        → count_from weekly_friday (suc x) 0 + month_of (suc x) + passed (month_of (suc x)) (suc x) ≡ suc x / 7
    same q ih = rw q (omega (arith, ih, count-end weekly_friday x, one-day x, passed-next (month_of x) x))

    inside : Holds x (month_of x) → count_from weekly_friday x 0 + month_of x + passed (month_of x) x ≡ x / 7
        → (suc x < first_day (suc (month_of x))) ⊎ (first_day (suc (month_of x)) ≤ suc x)
        → count_from weekly_friday (suc x) 0 + month_of (suc x) + passed (month_of (suc x)) (suc x) ≡ suc x / 7
    inside s ih (inl l) = same (month-is (month_of x) (suc x) (omega (arith, s.within)) (omega (arith, s.from)) l) ih
    inside s ih (inr l) =
        let m = month_of x in
        let q : month_of (suc x) ≡ suc m = month-is (suc m) (suc x) (omega (arith, s.within)) l
        (omega (arith, first-suc (suc m), length-bounds (suc m), s.until)) in
        let t = third-in m (omega (arith, s.within)) in
        let u = third-in (suc m) (omega (arith, s.within)) in
        let a : passed m x ≡ 1 = rw (lt-ltb (third_friday m) x (omega (arith, t, first-suc m, length-bounds m))) in
        let b : passed (suc m) (suc x) ≡ 0 = rw (le-ltb (third_friday (suc m)) (suc x) (omega (arith, u, s.until))) in
        let c : bit (eqb x (third_friday m)) ≡ 0 = not_third (eqb x (third_friday m)) refl (omega (arith, t, first-suc m, length-bounds m)) in
        rw q (omega (arith, ih, count-end weekly_friday x, one-day x, a, b, c))

    go : (x < 36525) ⊎ (36525 ≤ x) → count_from weekly_friday x 0 + month_of x + passed (month_of x) x ≡ x / 7
        → count_from weekly_friday (suc x) 0 + month_of (suc x) + passed (month_of (suc x)) (suc x) ≡ suc x / 7
    go (inl l) ih = inside (month-holds x l) ih (lt-or-ge (suc x) (first_day (suc (month_of x))))
    go (inr l) ih = same (month-past (suc x) (omega arith) ∙ sym (month-past x l)) ih

-- so those from s on, before x
pub fridays-from : (s x : ℕ) → s ≤ x → count_from weekly_friday (x - s) s + count_from weekly_friday s 0 ≡ count_from weekly_friday x 0
fridays-from s x h =
    let i : s + (x - s) ≡ x = omega arith in
    omega (arith, ap (λ (n : ℕ). count_from weekly_friday n 0) i, count_add weekly_friday s (x - s) 0, ap (count_from weekly_friday (x - s)) (zero-add s))

-- the code's count of the weekly Fridays before a day
pub before-passed : (x m t : ℕ) → m ≡ month_of x → t ≡ third_friday m → t < x → (m + 1 ≤ x / 7) × (x / 7 - m - 1 ≡ count_from weekly_friday x 0)
before-passed x m t q r l = let a : passed (month_of x) x ≡ 1 = rw (← q, ← r, lt-ltb t x l) in
    (omega (arith, q, fridays-before x), omega (arith, q, fridays-before x))

-- on or before its month's third Friday, a day has before it as many weekly Fridays as whole weeks less its month number
pub before-ahead : (x m t : ℕ) → m ≡ month_of x → t ≡ third_friday m → x ≤ t → (m ≤ x / 7) × (x / 7 - m ≡ count_from weekly_friday x 0)
before-ahead x m t q r l = let a : passed (month_of x) x ≡ 0 = rw (← q, ← r, le-ltb t x l) in
    (omega (arith, q, fridays-before x), omega (arith, q, fridays-before x))

counted-five : (kind : Kind) → is_weekly kind ≡ true → counted_for kind ≡ weekly_friday
unfolding counted_for
counted-five kind e = fun_ext (λ k. rw e)

counted-all : (kind : Kind) → is_weekly kind ≡ false → counted_for kind ≡ (λ k. true)
unfolding counted_for
counted-all kind e = fun_ext (λ k. rw e)

-- the code's count of the keys from a first one on
module _ (kind : Kind) (s x : ℕ) where
  -- where x is before s no key is counted
  pub counted_none : x < s → 0 ≡ count_from (counted_for kind) (x - s) s
  counted_none l = let z : x - s ≡ 0 = omega arith in rw z (sym (count_none (counted_for kind) s))

  -- of a weekly kind, the count is that of the weekly Fridays before x less that of those before s
  pub counted-weekly : is_weekly kind ≡ true → s ≤ x → count_from weekly_friday x 0 - count_from weekly_friday s 0 ≡ count_from (counted_for kind) (x - s) s
  counted-weekly e l = omega (arith, fridays-from s x l, ap (λ (p : ℕ → Bool). count_from p (x - s) s) (counted-five kind e))

  -- of a kind that is not weekly, every month from s on and before x is counted
  pub counted-months : is_weekly kind ≡ false → x - s ≡ count_from (counted_for kind) (x - s) s
  counted-months e = sym (ap (λ (p : ℕ → Bool). count_from p (x - s) s) (counted-all kind e) ∙ count-all (x - s) s)

-- before a later day there are at least as many weekly Fridays
pub counted-less : (s x : ℕ) → s ≤ x → count_from weekly_friday s 0 ≤ count_from weekly_friday x 0
counted-less s x l = omega (arith, fridays-from s x l)
