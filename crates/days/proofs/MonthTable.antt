-- A table that follows the month lengths has the first day of each month.
-- Assumes nothing.
use mathlib.Core.Path.{◌≡◌, refl, ◌∙◌, sym, ap}
use mathlib.Core.Bool.{true}
use mathlib.Core.List.{List, [], ◌∷◌}
use Prim.Native.Nat.{ℕ, zero, suc, ◌+◌, ◌*◌, ◌/◌, ◌%◌, ◌<◌}
use native.Mathlib.Nat.{add-zero, zero-add, add-suc, suc-add, le_of_suc-le-suc, not-suc-le-zero}
use lib.Dec.{eqb}
use lib.ListN.{length, get_or}
use borrow.Author.Tests.{eqb-true}
use Rattle.questions.specs.Search.{one_of}
use Rattle.questions.proofs.Bools.{both, and-fst, and-snd}
use Rattle.days.specs.Gregorian.{follows_from, follows_months, length_of, first_day, month_length, length_in, leap_year}
use Rattle.days.specs.Dates.{march_in, start_in}

next : (i s : ℕ) → s ≡ first_day i → s + length_of i ≡ first_day (suc i)
unfolding first_day
next i s q = ap (λ (n : ℕ). n + length_of i) q

from : (e : ℕ) (xs : List ℕ) (i s : ℕ) → s ≡ first_day i → follows_from e i s xs ≡ true → (k : ℕ) → k < length xs → get_or xs k 0 ≡ first_day (i + k)
unfolding follows_from
from e [] i s q t k h = absurd (not-suc-le-zero h)
from e (x ∷ xs) i s q t zero h = eqb-true x s (and-fst (eqb x s) (follows_from e (suc i) (s + length_of i) xs) t) ∙ q ∙ ap first_day (sym (add-zero i))
from e (x ∷ xs) i s q t (suc k) h =
    from e xs (suc i) (s + length_of i) (next i s q) (and-snd (eqb x s) (follows_from e (suc i) (s + length_of i) xs) t) k (le_of_suc-le-suc h) ∙
    ap first_day (suc-add i k ∙ sym (add-suc i k))

start : 0 ≡ first_day 0
unfolding first_day
start = refl

-- each entry of a table that follows the month lengths is the first day of its month
pub first-at : (xs : List ℕ) → follows_months xs ≡ true → (k : ℕ) → k < 1200 → get_or xs k 0 ≡ first_day k
first-at xs t k h =
    let (a, b) = both (follows_from 36525 0 0 xs) (eqb (length xs) 1200) t in
    let n : length xs ≡ 1200 = eqb-true (length xs) 1200 b in
    from 36525 xs 0 0 start a k (rw n h) ∙ ap first_day (zero-add k)

-- the day after the last month
pub first-end : first_day 1200 ≡ 36525
unfolding first_day length_of month_length length_in leap_year one_of
first-end = refl

-- the first day by arithmetic: the year's, then the month's in the year
abbrev pub by_rule : ℕ → ℕ
by_rule k = 365 * (k / 12) + (k / 12 + 3) / 4 + start_in (march_in (k / 12)) (k % 12)

-- what the rule gives for n months from month i on
ruled : ℕ → ℕ → List ℕ
ruled zero i = []
ruled (suc n) i = by_rule i ∷ ruled n (suc i)

ruled-at : (n i k : ℕ) → k < n → get_or (ruled n i) k 0 ≡ by_rule (i + k)
unfolding ruled
ruled-at zero i k h = absurd (not-suc-le-zero h)
ruled-at (suc n) i zero h = ap by_rule (sym (add-zero i))
ruled-at (suc n) i (suc k) h = ruled-at n (suc i) k (le_of_suc-le-suc h) ∙ ap by_rule (suc-add i k ∙ sym (add-suc i k))

-- that table follows the month lengths too: one computed test
ruled-right : follows_months (ruled 1200 0) ≡ true
unfolding ruled follows_from length_of month_length length_in leap_year one_of march_in start_in
ruled-right = refl

-- the first day of each of the 1,200 months is the one that the arithmetic gives
pub first-rule : (k : ℕ) → k < 1200 → first_day k ≡ by_rule k
first-rule k h = sym (first-at (ruled 1200 0) ruled-right k h) ∙ ruled-at 1200 0 k h ∙ ap by_rule (zero-add k)
