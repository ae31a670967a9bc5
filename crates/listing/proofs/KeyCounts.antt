-- Laws of counting keys.
-- Assumes nothing.
use mathlib.Core.Path.{◌≡◌, refl, sym, ap}
use mathlib.Core.Bool.{Bool, true, false}
use Prim.Native.Nat.{ℕ, zero, suc, ◌+◌, ◌-◌, ◌≤◌, ◌<◌}
use native.Mathlib.Nat.{add-zero, zero-add}
use native.Mathlib.Omega.{arith}
use lib.ListN.{length}
use Rattle.questions.proofs.Bools.{is_false}
use Rattle.listing.specs.Rules.{count_from}
use Rattle.listing.proofs.Walks.{bit, put, sift}

module _ (p : ℕ → Bool) where
  -- of no keys none is counted
  pub count_none : (a : ℕ) → count_from p 0 a ≡ 0
  unfolding count_from
  count_none a = refl

  count-step : (n a : ℕ) → count_from p (suc n) a ≡ bit (p a) + count_from p n (suc a)
  unfolding count_from
  count-step n a = refl

  -- the count of m + n keys is that of the first m plus that of the next n
  pub count_add : (m n a : ℕ) → count_from p (m + n) a ≡ count_from p m a + count_from p n (a + m)
  count_add zero n a = rw (zero-add n, count_none a, add-zero a, zero-add)
  count_add (suc m) n a =
      let i : suc m + n ≡ suc (m + n) = omega arith in
      let j : suc a + m ≡ a + suc m = omega arith in
      rw (i, count-step (m + n) a, count-step m a) (omega (arith, count_add m n (suc a), ap (count_from p n) j))

  -- the count of the keys up to n is the count of those before n, plus one where n passes
  pub count-end : (n : ℕ) → count_from p (suc n) 0 ≡ count_from p n 0 + bit (p n)
  count-end n =
      let i : n + 1 ≡ suc n = omega arith in
      omega (arith, ap (λ (x : ℕ). count_from p x 0) i, count_add n 1 0, ap (count_from p 1) (zero-add n), count-step 0 n, count_none (suc n))

  -- of n keys at most n are counted
  pub count_most : (n a : ℕ) → count_from p n a ≤ n
  count_most zero a = omega (arith, count_none a)
  count_most (suc n) a = go (p a) (count-step n a) (count_most n (suc a))
    where
      go : (b : Bool) → count_from p (suc n) a ≡ bit b + count_from p n (suc a) → count_from p n (suc a) ≤ n → count_from p (suc n) a ≤ suc n
      go true e h = omega arith
      go false e h = omega arith

  -- where none of the n keys passes, the count is 0
  pub count-zero : (n a : ℕ) → ((k : ℕ) → a ≤ k → k < a + n → p k ≡ false) → count_from p n a ≡ 0
  count-zero zero a h = count_none a
  count-zero (suc n) a h =
      rw (count-step n a, h a (omega arith) (omega arith)) (omega (arith, count-zero n (suc a) (λ k x y. h k (omega arith) (omega arith))))

  -- a key that passes is counted before any later key
  pub count-before : (x k : ℕ) → p x ≡ true → x < k → count_from p x 0 < count_from p k 0
  count-before x k e h =
      let j : suc x + (k - suc x) ≡ k = omega arith in
      omega (arith, ap (λ (n : ℕ). count_from p n 0) j, count_add (suc x) (k - suc x) 0, count-end x, ap bit e)

  -- the keys that pass lie from lo on, before hi
  pub count-window : (lo hi n : ℕ) → lo ≤ hi → hi ≤ n → ((k : ℕ) → k < lo → p k ≡ false) → ((k : ℕ) → hi ≤ k → p k ≡ false)
      → count_from p n 0 ≡ count_from p (hi - lo) lo
  count-window lo hi n a b before after =
      let i : lo + ((hi - lo) + (n - hi)) ≡ n = omega arith in
      let j : lo + (hi - lo) ≡ hi = omega arith in
      omega (
        arith,
        ap (λ (x : ℕ). count_from p x 0) i,
        count_add lo ((hi - lo) + (n - hi)) 0,
        ap (count_from p ((hi - lo) + (n - hi))) (zero-add lo),
        count_add (hi - lo) (n - hi) lo,
        ap (count_from p (n - hi)) j,
        count-zero lo 0 (λ k x y. before k (omega arith)),
        count-zero (n - hi) hi (λ k x y. after k x),
      )

  -- only one key may pass
  pub count-one : (x n : ℕ) → x < n → ((k : ℕ) → p k ≡ true → k ≡ x) → count_from p n 0 ≡ bit (p x)
  count-one x n l h =
      let i : suc x - x ≡ 1 = omega arith in
      omega (
        arith,
        count-window x (suc x) n (omega arith) l (λ k y. is_false (p k) (λ t. absurd (omega (arith, h k t))))
            (λ k y. is_false (p k) (λ t. absurd (omega (arith, h k t)))),
        ap (λ (m : ℕ). count_from p m x) i,
        count-step 0 x,
        count_none (suc x),
      )

  -- the list of the keys that pass is as long as their count
  pub length-sift : (n a : ℕ) → length (sift p n a) ≡ count_from p n a
  length-sift zero a = sym (count_none a)
  length-sift (suc n) a = go (p a) (count-step n a) (length-sift n (suc a))
    where
      go : (b : Bool) → count_from p (suc n) a ≡ bit b + count_from p n (suc a) → length (sift p n (suc a)) ≡ count_from p n (suc a)
          → length (put b a (sift p n (suc a))) ≡ count_from p (suc n) a
      go true e h = omega arith
      go false e h = omega arith

-- two counts together, key by key
pub count-balance : (p q s t : ℕ → Bool) → ((k : ℕ) → bit (p k) + bit (q k) ≡ bit (s k) + bit (t k)) → (n a : ℕ)
    → count_from p n a + count_from q n a ≡ count_from s n a + count_from t n a
count-balance p q s t h zero a = omega (arith, count_none p a, count_none q a, count_none s a, count_none t a)
count-balance p q s t h (suc n) a =
    omega (arith, count-step p n a, count-step q n a, count-step s n a, count-step t n a, h a, count-balance p q s t h n (suc a))

-- where each key that passes the first test passes the second, the first count is at most the second
pub count_less : (p q : ℕ → Bool) → ((k : ℕ) → p k ≡ true → q k ≡ true) → (n a : ℕ) → count_from p n a ≤ count_from q n a
count_less p q h zero a = omega (arith, count_none p a)
count_less p q h (suc n) a = go (p a) (count-step p n a) (h a) (count_less p q h n (suc a))
  where
    go : (b : Bool) → count_from p (suc n) a ≡ bit b + count_from p n (suc a) → (b ≡ true → q a ≡ true) → count_from p n (suc a) ≤ count_from q n (suc a)
        → count_from p (suc n) a ≤ count_from q (suc n) a
    go true e i l = omega (arith, count-step q n a, ap bit (i refl))
    go false e i l = omega (arith, count-step q n a)

-- every key is counted
pub count-all : (n a : ℕ) → count_from (λ k. true) n a ≡ n
unfolding count_from
count-all zero a = refl
count-all (suc n) a = omega (arith, count-all n (suc a))
