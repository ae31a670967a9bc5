-- Laws of the month lengths, the first days and the month of a day.
-- Assumes nothing.
use mathlib.Core.Path.{◌≡◌, refl, ◌∙◌, sym, ap, subst}
use mathlib.Core.Bool.{Bool, true, false, ◌&&◌, cond}
use mathlib.Core.Logic.{◌⊎◌, inl, inr, ⊎_elim}
use Prim.Native.Nat.{ℕ, zero, suc, ◌+◌, ◌-◌, ◌*◌, ◌/◌, ◌%◌, ◌≤◌, ◌<◌}
use native.Mathlib.Nat.{add-zero, add-suc, le_refl}
use native.Mathlib.Omega.{arith}
use lib.Dec.{leb, ltb}
use borrow.Author.Tests.{leb-true, ltb-true, ltb-false, lt-ltb, le-ltb}
use Rattle.questions.specs.Search.{every, one_of}
use Rattle.questions.proofs.Bools.{both, lt-or-ge}
use Rattle.questions.proofs.Search.{every-at}
use Rattle.days.specs.Gregorian.{length_of, first_day, month_length, length_in, leap_year}
use Rattle.days.specs.Dates.{month_from, month_of, first_of}
use Rattle.days.proofs.MonthTable.{first-end}

-- 28 to 31 days, of the month after j months of its year
abbrev bounded : Bool → ℕ → Bool
bounded leap j = leb 28 (length_in leap (j + 1)) && leb (length_in leap (j + 1)) 31

all-bounded : (leap : Bool) → every 12 (bounded leap) ≡ true
unfolding every length_in one_of
all-bounded true = refl
all-bounded false = refl

-- every month has 28 to 31 days
pub length-bounds : (k : ℕ) → (28 ≤ length_of k) × (length_of k ≤ 31)
unfolding length_of month_length
length-bounds k =
    let leap = leap_year (2000 + k / 12) in
    let (low, high) = both _ _ (every-at (bounded leap) 12 (k % 12) (all-bounded leap) (omega arith)) in
    (leb-true _ _ low, leb-true _ _ high)

-- the first day of the next month is the first day of a month plus that month's length
pub first-suc : (k : ℕ) → first_day (suc k) ≡ first_day k + length_of k
unfolding first_day
first-suc k = refl

-- the first day of month 0 is day 0
pub first-zero : first_day 0 ≡ 0
unfolding first_day
first-zero = refl

rising : (i n : ℕ) → first_day i + 28 * n ≤ first_day (i + n)
rising i zero = rw (add-zero i) (omega arith)
rising i (suc n) = rw (add-suc i n) (omega (arith, rising i n, first-suc (i + n), length-bounds (i + n)))

-- of two months the later starts at least 28 days after for each month between
pub first-apart : (i j : ℕ) → i ≤ j → first_day i + 28 * (j - i) ≤ first_day j
first-apart i j h = subst (λ (k : ℕ). first_day i + 28 * (j - i) ≤ first_day k) (omega arith) (rising i (j - i))

-- of two months, the earlier has a first day that is no later
pub first-le : (i j : ℕ) → i ≤ j → first_day i ≤ first_day j
first-le i j h = omega (arith, first-apart i j h)

-- a month that starts by d is not after a month that ends after d, and one that starts after d is after a month that starts by d
pub month-ge : (k m d : ℕ) → first_day k ≤ d → d < first_day (suc m) → k ≤ m
month-ge k m d a b = ⊎_elim (λ l. absurd (omega (arith, first-le (suc m) k l))) (λ l. l) (lt-or-ge m k)

-- a month that begins on a day or before it comes before a month that begins after that day
pub month-lt : (k m d : ℕ) → first_day m ≤ d → d < first_day k → m < k
month-lt k m d a b = ⊎_elim (λ l. l) (λ l. absurd (omega (arith, first-le k m l))) (lt-or-ge m k)

-- every month ends within 2099
pub first-last : (k : ℕ) → k < 1200 → first_day k + length_of k ≤ 36525
first-last k h = omega (arith, first-suc k, first-le (suc k) 1200 h, first-end)

-- of n months from k on, the one that holds the day d days after k's first
from_is : (n k d m : ℕ) → k ≤ m → m ≤ k + n → first_day m ≤ first_day k + d → first_day k + d < first_day (suc m) → month_from n k d ≡ m
unfolding month_from
from_is zero k d m a b lo hi = omega arith
from_is (suc n) k d m a b lo hi = go (ltb d (length_of k)) refl (from_is n (suc k) (d - length_of k) m)
  where
    next : first_day (suc k) ≡ first_day k + length_of k
    next = first-suc k

    go : (t : Bool) → ltb d (length_of k) ≡ t
        → (suc k ≤ m → m ≤ suc k + n → first_day m ≤ first_day (suc k) + (d - length_of k) → first_day (suc k) + (d - length_of k) < first_day (suc m)
        → month_from n (suc k) (d - length_of k) ≡ m) → cond t k (month_from n (suc k) (d - length_of k)) ≡ m
    go true e ih =
        let h = ltb-true d (length_of k) e in
        let u = month-lt (suc k) m (first_day k + d) lo (omega (arith, next)) in
        omega arith
    go false e ih =
        let h = ltb-false d (length_of k) e in
        let u : k < m = ⊎_elim (λ l. l) (λ l. absurd (omega (arith, next, first-le (suc m) (suc k) (omega arith)))) (lt-or-ge k m) in
        ih u (omega arith) (omega (arith, next)) (omega (arith, next))

-- of n months none holds it: the month after them
from_past : (n k d : ℕ) → first_day (k + n) ≤ first_day k + d → month_from n k d ≡ k + n
unfolding month_from
from_past zero k d h = sym (add-zero k)
from_past (suc n) k d h = go (ltb d (length_of k)) refl (from_past n (suc k) (d - length_of k))
  where
    same : first_day (suc k + n) ≡ first_day (k + suc n)
    same = ap first_day (omega arith)

    go : (t : Bool) → ltb d (length_of k) ≡ t → (first_day (suc k + n) ≤ first_day (suc k) + (d - length_of k) → month_from n (suc k) (d - length_of k) ≡ suc k + n)
        → cond t k (month_from n (suc k) (d - length_of k)) ≡ k + suc n
    go true e ih =
        let l = ltb-true d (length_of k) e in
        absurd (omega (arith, first-suc k, first-le (suc k) (k + suc n) (omega arith)))
    go false e ih =
        let l = ltb-false d (length_of k) e in
        ih (omega (arith, same, first-suc k)) ∙ (omega arith)

-- the month that holds d is the only one
pub month-is : (k d : ℕ) → k ≤ 1200 → first_day k ≤ d → d < first_day (suc k) → month_of d ≡ k
unfolding month_of
month-is k d h lo hi = from_is 1200 0 d k (omega arith) (omega arith) (omega (arith, first-zero)) (omega (arith, first-zero))

-- a day after 2099 has month number 1,200
pub month-past : (d : ℕ) → 36525 ≤ d → month_of d ≡ 1200
unfolding month_of
month-past d h = from_past 1200 0 d (omega (arith, first-zero, first-end)) ∙ (omega arith)

pub record Holds (d k : ℕ) : Type 0 where
  -- the month is one of the 1,200 months of 2000 to 2099
  pub within : k < 1200
  -- the day is the month's first day or later
  pub from : first_day k ≤ d
  -- the day is before the first day of the next month
  pub until : d < first_day (suc k)

-- of the first n months one holds a day before the next
some-month : (n d : ℕ) → n ≤ 1200 → d < first_day n → Holds d (month_of d)
some-month zero d l h = absurd (omega (arith, first-zero))
some-month (suc n) d l h = go (lt-or-ge d (first_day n)) (some-month n d (omega arith))
  where
    go : (d < first_day n) ⊎ (first_day n ≤ d) → (d < first_day n → Holds d (month_of d)) → Holds d (month_of d)
    go (inl a) ih = ih a
    go (inr a) ih = rw (month-is n d (omega arith) a h) (record { within = l; from = a; until = h })

-- a day of 2000 to 2099 lies in the month that it is given
pub month-holds : (d : ℕ) → d < 36525 → Holds d (month_of d)
month-holds d h = some-month 1200 d (le_refl 1200) (omega (arith, first-end))

-- for one of the 1,200 months, the first day in range is the sum of the month lengths before it
pub first-in : (k : ℕ) → k < 1200 → first_of k ≡ first_day k
unfolding first_of
first-in k h = rw (lt-ltb _ _ h)

-- the month after the last starts on the day after 2099
pub first_to : (k : ℕ) → k ≤ 1200 → first_of k ≡ first_day k
unfolding first_of
first_to k h = go (lt-or-ge k 1200)
  where
    go : (k < 1200) ⊎ (1200 ≤ k) → first_of k ≡ first_day k
    go (inl l) = first-in k l
    go (inr l) =
        let e : k ≡ 1200 = omega arith in
        rw e (sym first-end)

-- for a month after 2099, the first day in range is 36,525
pub first_out : (k : ℕ) → 1200 ≤ k → first_of k ≡ 36525
unfolding first_of
first_out k h = rw (le-ltb _ _ h)

-- the first day in range of any month is at most 36,525
pub first-of-most : (k : ℕ) → first_of k ≤ 36525
first-of-most k = go (lt-or-ge k 1200)
  where
    go : (k < 1200) ⊎ (1200 ≤ k) → first_of k ≤ 36525
    go (inl l) = omega (arith, first-in k l, first-last k l)
    go (inr l) = omega (arith, first_out k l)

-- of two months, the earlier has a first day in range that is no later, months after 2099 included
pub first-of-le : (i j : ℕ) → i ≤ j → first_of i ≤ first_of j
first-of-le i j h = go (lt-or-ge j 1200)
  where
    go : (j < 1200) ⊎ (1200 ≤ j) → first_of i ≤ first_of j
    go (inl l) = omega (arith, first-in i (omega arith), first-in j l, first-le i j h)
    go (inr l) = omega (arith, first-of-most i, first_out j l)

-- the month number of any day is at most 1,200
pub month-most : (d : ℕ) → month_of d ≤ 1200
month-most d = go (lt-or-ge d 36525)
  where
    go : (d < 36525) ⊎ (36525 ≤ d) → month_of d ≤ 1200
    go (inl l) = omega (arith, month-holds d l)
    go (inr l) = omega (arith, month-past d l)
