-- Lists of bytes, and bytes that are zero.
-- Assumes nothing.
use Prim.Native.Nat.{ℕ, ◌+◌, ◌-◌, ◌≤◌, ◌<◌}
use mathlib.Core.Path.{◌≡◌, ◌∙◌, sym, ap}
use mathlib.Core.Bool.{true}
use mathlib.Core.Logic.{◌⊎◌, inl, inr}
use mathlib.Core.List.{List}
use native.Mathlib.Omega.{arith}
use lib.Dec.{eqb, ltb}
use lib.ListN.{length, get_or, get_or-eq_default}
use borrow.Author.Tests.{eqb-true, ltb-true}
use Rattle.questions.proofs.Bools.{lt-or-ge}
use Rattle.questions.proofs.Search.{every-at}
use Rattle.file_blocks.specs.Blocks.{zeros}
use Rattle.file_write.specs.FilesWritten.{are_bytes}

-- each number of a list of bytes is below 256
pub byte-below : (l : List ℕ) → are_bytes l ≡ true → (i : ℕ) → get_or l i 0 < 256
unfolding are_bytes
byte-below l e i = go (lt-or-ge i (length l))
  where
    go : (i < length l) ⊎ (length l ≤ i) → get_or l i 0 < 256
    go (inl h) = ltb-true (get_or l i 0) 256 (every-at (λ j. ltb (get_or l j 0) 256) (length l) i e h)
    go (inr h) = omega (arith, get_or-eq_default l 0 {n = i} h)

-- one of n zeros from `at` on
pub zero-at : (b : List ℕ) (at n j : ℕ) → zeros b at n ≡ true → at ≤ j → j < at + n → get_or b j 0 ≡ 0
unfolding zeros
zero-at b at n j e a l =
    let p : at + (j - at) ≡ j = omega arith in
    ap (λ (k : ℕ). get_or b k 0) (sym p) ∙ eqb-true _ _ (every-at (λ i. eqb (get_or b (at + i) 0) 0) n (j - at) e (omega arith))
