-- Laws of the places of a block: the bytes of its records.
-- Assumes nothing.
use mathlib.Core.Path.{◌≡◌, ◌∙◌, ap}
use mathlib.Core.List.{List, []}
use mathlib.Core.Logic.{◌⊎◌, inl, inr}
use Prim.Native.Nat.{ℕ, ◌+◌, ◌*◌, ◌≤◌, ◌<◌}
use lib.ListN.{take, drop}
use lib.Seq.{take-nil, drop-nil}
use borrow.Author.Tests.{lt-ltb, le-ltb}
use Rattle.questions.proofs.Bools.{lt-or-ge}
use Rattle.file_records.specs.Records.{record_of}

-- record k of a block, below 15, is the 32 bytes from byte 16 + 32 × k on
pub record-in : (b : List ℕ) (k : ℕ) → k < 15 → record_of b k ≡ take 32 (drop (16 + 32 * k) b)
unfolding record_of
record-in b k h = rw (lt-ltb k 15 h)

-- a block has no record bytes at place 15 or after it
pub record-out : (b : List ℕ) (k : ℕ) → 15 ≤ k → record_of b k ≡ []
unfolding record_of
record-out b k h = rw (le-ltb k 15 h)

-- a block without bytes has no record bytes at any place
pub record-none : (k : ℕ) → record_of [] k ≡ []
record-none k = go (lt-or-ge k 15)
  where
    go : (k < 15) ⊎ (15 ≤ k) → record_of [] k ≡ []
    go (inl h) = record-in [] k h ∙ ap (take 32) (drop-nil (16 + 32 * k)) ∙ take-nil 32
    go (inr h) = record-out [] k h
