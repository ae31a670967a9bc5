-- The places of a byte.
-- Assumes nothing.
use Rattle.std.specs.Prelude.{ℕ, ◌≤◌, ◌<◌, ◌≡◌, List, length, get_or}

-- where what begins at `from` ends: at the first place that has the byte, or where the bytes do
pub record ByteFrom (byte : ℕ) (bytes : List ℕ) (from r : ℕ) : Type 0 where
  pub on : from ≤ r
  pub within : r ≤ length bytes
  pub none : (i : ℕ) → from ≤ i → i < r → get_or bytes i 0 ≡ byte → ⊥
  pub found : r < length bytes → get_or bytes r 0 ≡ byte
