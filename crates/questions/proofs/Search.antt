-- Laws of the tests over runs of numbers.
-- Assumes nothing.
use mathlib.Core.Path.{◌≡◌, refl, ◌∙◌, sym, ap, fun_ext}
use mathlib.Core.Bool.{Bool, true, false, ◌&&◌, cond}
use mathlib.Core.Logic.{◌⊎◌, inl, inr}
use Prim.Native.Nat.{ℕ, zero, suc, ◌+◌, ◌-◌, ◌≤◌, ◌<◌}
use native.Mathlib.Nat.{add-zero, le_refl, eq-or-lt_of_le, le_of_suc-le-suc}
use native.Mathlib.Numerals.{add-one}
use native.Mathlib.Omega.{arith}
use lib.Dec.{eqb}
use borrow.Author.Tests.{eqb-true, eqb-false}
use Rattle.questions.specs.Search.{every, some, latest, first_from}
use Rattle.questions.proofs.Bools.{clash, both, and_both, or_left, or_right, or-either, is_false, lt-or-ge}

module _ (f : ℕ → Bool) where
  -- each of no numbers passes
  pub every-none : every 0 f ≡ true
  unfolding every
  every-none = refl

  -- where each number below n passes and n passes too, each number below n + 1 passes
  pub every_more : (n : ℕ) → every n f ≡ true → f n ≡ true → every (n + 1) f ≡ true
  unfolding every
  every_more n a b = rw (add-one, a, b)

  -- where each number below n passes, any given number below n passes
  pub every-at : (n k : ℕ) → every n f ≡ true → k < n → f k ≡ true
  unfolding every
  every-at zero k e h = absurd (omega arith)
  every-at (suc n) k e h = go (eq-or-lt_of_le (le_of_suc-le-suc h)) (λ l. every-at n k (both (every n f) (f n) e).0 l)
    where
      go : (k ≡ n) ⊎ (k < n) → (k < n → f k ≡ true) → f k ≡ true
      go (inl q) ih = ap f q ∙ (both (every n f) (f n) e).1
      go (inr l) ih = ih l

  -- one that fails
  pub every-not : (n k : ℕ) → f k ≡ false → k < n → every n f ≡ false
  every-not n k e h = is_false (every n f) (λ t. clash (every-at n k t h) e)

  -- where every number below n is shown to pass, the test of all of them says so
  pub every-all : (n : ℕ) → ((k : ℕ) → k < n → f k ≡ true) → every n f ≡ true
  unfolding every
  every-all zero h = refl
  every-all (suc n) h = and_both (every-all n (λ k l. h k (omega arith))) (h n (le_refl (suc n)))

  -- where a number below n passes, the test for one that passes says so
  pub some_at : (n k : ℕ) → f k ≡ true → k < n → some n f ≡ true
  unfolding some
  some_at zero k e h = absurd (omega arith)
  some_at (suc n) k e h = go (eq-or-lt_of_le (le_of_suc-le-suc h)) (λ l. some_at n k e l)
    where
      go : (k ≡ n) ⊎ (k < n) → (k < n → some n f ≡ true) → some (suc n) f ≡ true
      go (inl q) ih = or_right (some n f) (ap f (sym q) ∙ e)
      go (inr l) ih = or_left (f n) (ih l)

  -- a number that passes
  pub record Passing (n : ℕ) : Type 0 where
    -- the number
    pub at : ℕ
    -- the number is below n
    pub below : at < n
    -- the number passes the test
    pub passes : f at ≡ true

  -- where one of the numbers below n passes, such a number is given
  pub some_one : (n : ℕ) → some n f ≡ true → Passing n
  unfolding some
  some_one zero e = clash e refl
  some_one (suc n) e = go (or-either (some n f) (f n) e) (λ q. some_one n q)
    where
      go : (some n f ≡ true) ⊎ (f n ≡ true) → (some n f ≡ true → Passing n) → Passing (suc n)
      go (inl q) ih = let p = ih q in record { at = p.at; below = omega arith; passes = p.passes }
      go (inr q) ih = record { at = n; below = le_refl (suc n); passes = q }

  -- the latest up to a number that passes is that number
  pub latest-here : (d : ℕ) → f d ≡ true → latest f d ≡ d
  unfolding latest
  latest-here zero e = refl
  latest-here (suc d) e = rw e

  -- the latest up to 0 is 0
  pub latest-zero : (d : ℕ) → d ≤ 0 → latest f d ≡ 0
  unfolding latest
  latest-zero zero h = refl
  latest-zero (suc d) h = absurd (omega arith)

  below : (d : ℕ) → f (suc d) ≡ false → latest f (suc d) ≡ latest f d
  unfolding latest
  below d e = rw e

  -- the latest up to a number above 0 that does not pass is the latest up to the number before it
  pub latest-back : (d : ℕ) → 0 < d → f d ≡ false → latest f (d - 1) ≡ latest f d
  latest-back zero l e = absurd (omega arith)
  latest-back (suc d) l e =
      let q : suc d - 1 ≡ d = omega arith in
      ap (latest f) q ∙ sym (below d e)

  -- the latest up to a number is at most that number
  pub latest-le : (d : ℕ) → latest f d ≤ d
  unfolding latest
  latest-le zero = le_refl 0
  latest-le (suc d) = go (f (suc d)) (latest-le d)
    where
      go : (b : Bool) → latest f d ≤ d → cond b (suc d) (latest f d) ≤ suc d
      go true h = le_refl (suc d)
      go false h = omega arith

  -- none that passes, up to d, is later
  pub latest-ge : (d t : ℕ) → t ≤ d → f t ≡ true → t ≤ latest f d
  latest-ge zero t h e = omega arith
  latest-ge (suc d) t h e = go (f (suc d)) refl (eq-or-lt_of_le h) (λ k. latest-ge d t k e)
    where
      go : (b : Bool) → f (suc d) ≡ b → (t ≡ suc d) ⊎ (t < suc d) → (t ≤ d → t ≤ latest f d) → t ≤ latest f (suc d)
      go true q s ih = omega (arith, latest-here (suc d) q)
      go false q (inl s) ih = clash (ap f (sym s) ∙ e) q
      go false q (inr s) ih = omega (arith, below d q, ih (le_of_suc-le-suc s))

  -- the latest passes, where it is not 0
  pub latest-passes : (d : ℕ) → 0 < latest f d → f (latest f d) ≡ true
  latest-passes zero h = absurd (omega (arith, latest-zero 0 (le_refl 0)))
  latest-passes (suc d) h = go (f (suc d)) refl (latest-passes d)
    where
      go : (b : Bool) → f (suc d) ≡ b → (0 < latest f d → f (latest f d) ≡ true) → f (latest f (suc d)) ≡ true
      go true q ih = ap f (latest-here (suc d) q) ∙ q
      go false q ih = ap f (below d q) ∙ ih (omega (arith, below d q))

  module _ (none : ℕ) where
    -- among no numbers the first that passes is `none`
    pub first-none : (d : ℕ) → first_from f none 0 d ≡ none
    unfolding first_from
    first-none d = refl

    -- among one number or more, the first that passes is the first number where that one passes
    pub first-here : (n d : ℕ) → 0 < n → f d ≡ true → first_from f none n d ≡ d
    unfolding first_from
    first-here zero d h e = absurd (omega arith)
    first-here (suc n) d h e = rw e

    -- where the first number does not pass, the search goes on with the next number and one number fewer
    pub first_next : (n d : ℕ) → 0 < n → f d ≡ false → first_from f none n d ≡ first_from f none (n - 1) (d + 1)
    unfolding first_from
    first_next zero d h e = absurd (omega arith)
    first_next (suc n) d h e =
        let q : suc n - 1 ≡ n = omega arith in
        rw (e, q, add-one)

-- a search of the numbers from d on, below e
module _ (f : ℕ → Bool) (none e : ℕ) where
  -- a search from the end or later finds `none`
  pub search-none : (d : ℕ) → e ≤ d → first_from f none (e - d) d ≡ none
  search-none d h =
      let z : e - d ≡ 0 = omega arith in
      ap (λ (n : ℕ). first_from f none n d) z ∙ first-none f none d

  -- a search from a number before the end that passes finds that number
  pub search-here : (d : ℕ) → d < e → f d ≡ true → first_from f none (e - d) d ≡ d
  search-here d h t = first-here f none (e - d) d (omega arith) t

  -- a search from a number before the end that does not pass finds what the search from the next number finds
  pub search-next : (d : ℕ) → d < e → f d ≡ false → first_from f none (e - (d + 1)) (d + 1) ≡ first_from f none (e - d) d
  search-next d h t =
      let s : e - (d + 1) ≡ e - d - 1 = omega arith in
      ap (λ (n : ℕ). first_from f none n (d + 1)) s ∙ sym (first_next f none (e - d) d (omega arith) t)

-- the first of n that passes is the j-th after d where none before it passes
pub first-is : (f : ℕ → Bool) (none n d j : ℕ) → j < n → ((i : ℕ) → i < j → f (d + i) ≡ false) → f (d + j) ≡ true → first_from f none n d ≡ d + j
first-is f none n d zero h a b = first-here f none n d (omega arith) (ap f (sym (add-zero d)) ∙ b) ∙ sym (add-zero d)
first-is f none n d (suc j) h a b =
    let e : d + 0 ≡ d = add-zero d in
    let s : d + 1 + j ≡ d + suc j = omega arith in
    first_next f none n d (omega arith) (ap f (sym e) ∙ a 0 (omega arith)) ∙
    first-is f none (n - 1) (d + 1) j (omega arith) (λ i l. ap f (next i) ∙ a (suc i) (omega arith)) (ap f s ∙ b) ∙ s
  where
    next : (i : ℕ) → d + 1 + i ≡ d + suc i
    next i = omega arith

-- two tests that agree find the same
pub first-same : (f g : ℕ → Bool) (none n d : ℕ) → ((k : ℕ) → f k ≡ g k) → first_from f none n d ≡ first_from g none n d
first-same f g none n d e = ap (λ (t : ℕ → Bool). first_from t none n d) (fun_ext e)

-- a number that does not pass
pub record Failing (f : ℕ → Bool) (n : ℕ) : Type 0 where
  -- the number
  pub at : ℕ
  -- the number is below n
  pub below : at < n
  -- the number does not pass the test
  pub fails : f at ≡ false

-- where not each number below n passes, a number that does not pass is given
pub every_one : (f : ℕ → Bool) (n : ℕ) → every n f ≡ false → Failing f n
unfolding every
every_one f zero e = clash refl e
every_one f (suc n) e = go (every n f) refl e (every_one f n)
  where
    go : (b : Bool) → every n f ≡ b → (b && f n) ≡ false → (every n f ≡ false → Failing f n) → Failing f (suc n)
    go true q e ih = record { at = n; below = le_refl (suc n); fails = e }
    go false q e ih = let p = ih q in record { at = p.at; below = omega arith; fails = p.fails }

-- one run after another
pub every-add : (f : ℕ → Bool) (m n : ℕ) → every m f ≡ true → every n (λ j. f (m + j)) ≡ true → every (m + n) f ≡ true
every-add f m n a b = every-all f (m + n) each
  where
    each : (k : ℕ) → k < m + n → f k ≡ true
    each k h = side (lt-or-ge k m)
      where
        side : (k < m) ⊎ (m ≤ k) → f k ≡ true
        side (inl l) = every-at f m k a l
        side (inr l) =
            let e : k ≡ m + (k - m) = omega arith in
            ap f e ∙ every-at (λ j. f (m + j)) n (k - m) b (omega arith)

-- of more numbers that pass, the latest up to a later one is not earlier
pub latest-rises : (f g : ℕ → Bool) (d e : ℕ) → ((k : ℕ) → f k ≡ true → g k ≡ true) → d ≤ e → latest f d ≤ latest g e
latest-rises f g d e h l = go (lt-or-ge 0 (latest f d))
  where
    go : (0 < latest f d) ⊎ (latest f d ≤ 0) → latest f d ≤ latest g e
    go (inl p) = latest-ge g e (latest f d) (omega (arith, latest-le f d)) (h (latest f d) (latest-passes f d p))
    go (inr p) = omega arith

-- where one number no longer passes and all others are as they were, the latest was that one or stays
pub latest-but : (f g : ℕ → Bool) (d : ℕ) → ((k : ℕ) → g k ≡ true → f k ≡ true) → ((k : ℕ) → (k ≡ d → ⊥) → g k ≡ f k)
    → (e : ℕ) → (latest f e ≡ d) ⊎ (latest g e ≡ latest f e)
latest-but f g d fewer other e = go (eqb (latest f e) d) refl
  where
    below : (latest f e ≡ d → ⊥) → (0 < latest f e) ⊎ (latest f e ≤ 0) → latest f e ≤ latest g e
    below n (inl p) = latest-ge g e (latest f e) (latest-le f e) (other (latest f e) n ∙ latest-passes f e p)
    below n (inr p) = omega arith

    go : (b : Bool) → eqb (latest f e) d ≡ b → (latest f e ≡ d) ⊎ (latest g e ≡ latest f e)
    go true q = inl (eqb-true (latest f e) d q)
    go false q = inr (omega (arith, below (eqb-false (latest f e) d q) (lt-or-ge 0 (latest f e)), latest-rises g f e e fewer (omega arith)))
