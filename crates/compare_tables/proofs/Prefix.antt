-- The length of the first elements of a list.
-- Assumes nothing.
use Prim.Native.Nat.{ℕ, ◌≤◌}
use mathlib.Core.Path.{◌≡◌}
use mathlib.Core.List.{List}
use lib.ListN.{length, take}
use Rattle.io.proofs.Counting.{prefix_len_of_le}

-- the first n elements of a list of at least n are n
pub prefix-length : (n : ℕ) (xs : List ℕ) → n ≤ length xs → n ≡ length (take n xs)
prefix-length n xs h = (prefix_len_of_le n xs h).1
