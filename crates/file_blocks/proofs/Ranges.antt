-- The test of all numbers below an end, as `all` asks it: of the numbers of a range, or of the blocks of a file.
-- Assumes nothing.
use mathlib.Core.Path.{◌≡◌, refl, ◌∙◌, ap}
use mathlib.Core.Bool.{Bool, true, false, ◌&&◌}
use mathlib.Core.List.{List, map}
use mathlib.Core.Logic.{◌⊎◌, inl, inr}
use Prim.Native.Nat.{ℕ, zero, suc, ◌+◌, ◌≤◌, ◌<◌}
use native.Mathlib.Omega.{arith}
use denote.Param.Members.{Mut}
use Rattle.std.specs.declared.ops.Range.{Range}
use Rattle.std.specs.declared.option.Option.{Option}
use Rattle.std.specs.Iterator.{YieldsThen}
use Rattle.std.specs.Fn.{Called}
use Rattle.std.specs.Option.{MatchOption}
use Rattle.std.specs.List.{FoldsTo, range_with_len, list_all, enumerate_from}
use Rattle.std.proofs.iter.Yields.{nat_range_steps}
use Rattle.std.proofs.lemmas.List.Folds.{list_all-map}
use Rattle.std.proofs.lemmas.Iterator.{YieldsList-from_range}
use Rattle.std.proofs.lemmas.Iterator.Search.{all_from_yields_List}
use Rattle.questions.specs.Search.{every}
use Rattle.questions.proofs.Search.{every-at, every-all}
use Rattle.questions.proofs.Bools.{both, and_both, same_test, lt-or-ge}
use Rattle.file_blocks.specs.Blocks.{block_count, block_of, blocks_of}

module _ (test : ℕ → Bool) where
  listed-all : (a n : ℕ) → ((k : ℕ) → a ≤ k → k < a + n → test k ≡ true) → list_all test (range_with_len a n) ≡ true
  listed-all a zero h = refl
  listed-all a (suc n) h = and_both (h a (omega arith) (omega arith)) (listed-all (a + 1) n (λ k l m. h k (omega arith) (omega arith)))

  listed-each : (a n : ℕ) → list_all test (range_with_len a n) ≡ true → (k : ℕ) → a ≤ k → k < a + n → test k ≡ true
  listed-each a zero e k l m = absurd (omega arith)
  listed-each a (suc n) e k l m = go (lt-or-ge a k) (both _ _ e) (λ p h. listed-each (a + 1) n p k h (omega arith))
    where
      go : (a < k) ⊎ (k ≤ a) → (test a ≡ true) × (list_all test (range_with_len (a + 1) n) ≡ true)
          → (list_all test (range_with_len (a + 1) n) ≡ true → a + 1 ≤ k → test k ≡ true) → test k ≡ true
      go (inl h) p ih = ih p.1 (omega arith)
      go (inr h) p ih =
          let q : k ≡ a = omega arith in
          ap test q ∙ p.0

  -- the list of the numbers from 0 on passes where each of them does
  pub listed-every : (n : ℕ) → list_all test (range_with_len 0 n) ≡ every n test
  listed-every n =
      same_test _ _
      (λ e. every-all test n (λ k h. listed-each 0 n e k (omega arith) (omega arith)))
      (λ e. listed-all 0 n (λ k l m. every-at test n k e (omega arith)))

-- `(0..n).all(..)` of a closure that leaves itself as it was and answers the test gives whether each number below n passes
pub every_from_all : {F : Type 0} {g : Mut F (ℕ × Unit {0}) Bool} (test : ℕ → Bool) (n : ℕ) (u : Range ℕ) (f : F) (r : Bool)
    → (xs : List ℕ) × (o : Option ℕ) × (j : F) × YieldsThen nat_range_steps (record { start = 0; end = n }) xs o u
    × FoldsTo (λ p x q. Called g p (x, tt) true q) f xs j × MatchOption o (r ≡ true) (λ x. (r ≡ false) × ((h : F) × Called g j (x, tt) false h))
    → ((x : ℕ) (b : Bool) (q : F) → Called g f (x, tt) b q → (q ≡ f) × (b ≡ test x)) → r ≡ every n test
every_from_all test n u f r ran calls =
    all_from_yields_List test u f r ran (YieldsList-from_range 0 n n refl (omega arith)) calls ∙ listed-every test n

-- all blocks of a file pass where each does
pub blocks-every : (test : List ℕ → Bool) (f : List ℕ) → list_all test (blocks_of f) ≡ every (block_count f) (λ k. test (block_of f k))
unfolding blocks_of
blocks-every test f = list_all-map test (block_of f) (range_with_len 0 (block_count f)) ∙ listed-every (λ k. test (block_of f k)) (block_count f)

numbered : (test : ℕ × List ℕ → Bool) (g : ℕ → List ℕ) (a n : ℕ)
    → list_all test (enumerate_from a (map g (range_with_len a n))) ≡ list_all (λ k. test (k, g k)) (range_with_len a n)
numbered test g a zero = refl
numbered test g a (suc n) = ap (λ (b : Bool). test (a, g a) && b) (numbered test g (a + 1) n)

-- all blocks of a file, each with its index, pass where each does
pub numbered-every : (test : ℕ × List ℕ → Bool) (f : List ℕ) → list_all test (enumerate_from 0 (blocks_of f)) ≡ every (block_count f) (λ k. test (k, block_of f k))
unfolding blocks_of
numbered-every test f = numbered test (block_of f) 0 (block_count f) ∙ listed-every (λ k. test (k, block_of f k)) (block_count f)
