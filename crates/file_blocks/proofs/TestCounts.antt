-- Laws of the count of numbers that pass a test.
-- Assumes nothing.
use mathlib.Core.Path.{◌≡◌, refl, ◌∙◌, sym, ap}
use mathlib.Core.Bool.{Bool, true, false, cond}
use mathlib.Core.List.{List, [], ◌∷◌, map, map-id, ◌++◌}
use Prim.Native.Nat.{ℕ, zero, suc, ◌+◌, ◌≤◌}
use native.Mathlib.Numerals.{add-one}
use native.Mathlib.Omega.{arith}
use lib.ListN.{length, length-append}
use Rattle.std.specs.List.{filter, range_with_len}
use Rattle.std.proofs.lemmas.List.FromFn.{filter_of_map_range_with_len_more}
use Rattle.file_blocks.specs.Blocks.{count_of, block_count, block_of, blocks_of}

module _ (test : ℕ → Bool) where
  -- of no numbers, none passes the test
  pub count_none : count_of 0 test ≡ 0
  unfolding count_of
  count_none = refl

  -- a further number that passes the test adds 1 to the count
  pub count_yes : (n : ℕ) {r : Bool} → r ≡ test n → r ≡ true → count_of (n + 1) test ≡ count_of n test + 1
  unfolding count_of
  count_yes n e t = rw (add-one n, sym e ∙ t)

  -- a further number that does not pass the test adds nothing to the count
  pub count_no : (n : ℕ) {r : Bool} → r ≡ test n → r ≡ false → count_of (n + 1) test ≡ count_of n test + 0
  unfolding count_of
  count_no n e t = rw (add-one n, sym e ∙ t)

-- no more numbers pass than there are
pub count-most : (test : ℕ → Bool) (n : ℕ) → count_of n test ≤ n
unfolding count_of
count-most test zero = omega arith
count-most test (suc n) = go (test n) (count-most test n)
  where
    go : (b : Bool) → count_of n test ≤ n → count_of n test + cond b 1 0 ≤ suc n
    go true h = omega arith
    go false h = omega arith

one-more : {X : Type 0} (xs : List X) (x : X) (b : Bool) → length (xs ++ cond b (x ∷ []) []) ≡ length xs + cond b 1 0
one-more xs x true = length-append xs (x ∷ [])
one-more xs x false = length-append xs []

-- a filter keeps as many of the values of the numbers below n as pass its test
pub counted : {X : Type 0} (test : X → Bool) (value : ℕ → X) (n : ℕ) → length (filter test (map value (range_with_len 0 n))) ≡ count_of n (λ k. test (value k))
unfolding count_of
counted test value zero = refl
counted test value (suc n) =
    let s : suc n ≡ n + 1 = omega arith in
    ap (λ (m : ℕ). length (filter test (map value (range_with_len 0 m)))) s
    ∙ ap length (filter_of_map_range_with_len_more test value 0 n n (omega arith))
    ∙ one-more _ (value n) (test (value n))
    ∙ ap (λ (m : ℕ). m + cond (test (value n)) 1 0) (counted test value n)

-- the same of the numbers themselves
pub counted-numbers : (test : ℕ → Bool) (n : ℕ) → length (filter test (range_with_len 0 n)) ≡ count_of n test
counted-numbers test n = ap (λ (l : List ℕ). length (filter test l)) (sym (map-id (range_with_len 0 n))) ∙ counted test (λ k. k) n

-- the same of the blocks of a file
pub counted-blocks : (test : List ℕ → Bool) (f : List ℕ) → length (filter test (blocks_of f)) ≡ count_of (block_count f) (λ k. test (block_of f k))
unfolding blocks_of
counted-blocks test f = counted test (block_of f) (block_count f)
