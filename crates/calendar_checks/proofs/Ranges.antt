-- What `all` says of the numbers below n: that each passes, and what each carries on is carried from 0 to n.
-- Assumes nothing.
use mathlib.Core.Path.{◌≡◌, refl, ◌∙◌, sym, subst, ap}
use mathlib.Core.Bool.{Bool, true, false, ◌&&◌}
use mathlib.Core.List.{List}
use Prim.Native.Nat.{ℕ, zero, suc, ◌+◌, ◌*◌, ◌≤◌, ◌<◌}
use native.Mathlib.Nat.{zero-add}
use native.Mathlib.Omega.{arith}
use native.Mathlib.Numerals.{add-one}
use lib.ListN.{length, get_or}
use Rattle.std.specs.Bool.{MatchBool}
use Rattle.std.specs.List.{AllWithin, HoldsAt, range_with_len}
use Rattle.std.proofs.lemmas.List.FromFn.{length-range_with_len, get_or-range_with_len}
use Rattle.questions.specs.Search.{every}
use Rattle.questions.proofs.Bools.{clash, same_test, both, and_both}
use Rattle.questions.proofs.Search.{every-all, every-at, every-not, every-add}

module _ (n : ℕ) where
  -- the numbers below n, in order
  abbrev below : List ℕ
  below = range_with_len 0 n

  long : length below ≡ n
  long = length-range_with_len 0 n

  at : (k : ℕ) → k < n → get_or below k 0 ≡ k
  at k h = get_or-range_with_len 0 n k 0 h ∙ zero-add k

  module _ (Z : Type 0) (P : ℕ → Type 0) where
    -- where `all` answers yes and each number below n has what its yes says, that holds of a number below n
    pub each-below : (r : Bool) → MatchBool r (AllWithin P below 0 (length below)) Z → r ≡ true → (k : ℕ) → k < n → P k
    each-below true h e k l = subst P (at k l) (h k 0 (omega arith) (omega (arith, l, long)))
    each-below false h e k l = clash e refl

  -- what each number below n carries on to the next is carried from 0 to n, where `all` answers yes
  pub carried : (Z : Type 0) (P : ℕ → Type 0) (r : Bool) → MatchBool r (AllWithin (λ k. P k → P (k + 1)) below 0 (length below)) Z → r ≡ true → P 0 → P n
  carried Z P r h e z = walk n (omega arith)
    where
      walk : (m : ℕ) → m ≤ n → P m
      walk zero l = z
      walk (suc m) l = subst P (add-one m) (each-below Z (λ k. P k → P (k + 1)) r h e m (omega (arith, l)) (walk m (omega (arith, l))))

  -- `all` of a test is the definition's
  pub all-every : (test : ℕ → Bool) (r : Bool)
      → MatchBool r (AllWithin (λ k. test k ≡ true) below 0 (length below)) ((k : ℕ) × (k < length below) × HoldsAt (λ k. test k ≡ false) below k)
      → r ≡ every n test
  all-every test true h = sym (every-all test n (each-below ⊥ (λ k. test k ≡ true) true h refl))
  all-every test false h =
      let l : h.0 < n = omega (arith, h.1, long) in
      sym (every-not test n h.0 (sym (ap test (at h.0 l)) ∙ h.2 0) l)

-- a test over m + n numbers is one over the first m and one over the next n
pub every-sum : (f : ℕ → Bool) (m n : ℕ) → (every m f && every n (λ j. f (m + j))) ≡ every (m + n) f
every-sum f m n = same_test _ _
    (λ e. let b = both (every m f) (every n (λ j. f (m + j))) e in every-add f m n b.0 b.1)
    (λ e. and_both (every-all f m (λ k l. every-at f (m + n) k e (omega arith))) (every-all (λ j. f (m + j)) n (λ j l. every-at f (m + n) (m + j) e (omega arith))))

-- a test over n blocks of w numbers is one over w · n numbers
pub every-blocks : (f : ℕ → Bool) (w n : ℕ) → every n (λ k. every w (λ p. f (w * k + p))) ≡ every (w * n) f
unfolding every
every-blocks f w zero = let z : 0 ≡ w * 0 = omega arith in ap (λ (m : ℕ). every m f) z
every-blocks f w (suc n) =
    let e : w * n + w ≡ w * suc n = omega arith in
    ap (λ (b : Bool). b && every w (λ p. f (w * n + p))) (every-blocks f w n) ∙ every-sum f (w * n) w ∙
    ap (λ (m : ℕ). every m f) e
