-- The places of separators in a line.
-- Assumes nothing.
use Rattle.std.specs.Prelude.{ℕ, ◌≤◌, ◌<◌, ◌≡◌, true, List, length, get_or}
use Rattle.delivery_items.specs.Items.{separator}

-- where the field that begins at `from` ends: at the first separator, or where the line does
pub record SeparatorFrom (line : List ℕ) (from r : ℕ) : Type 0 where
  pub on : from ≤ r
  pub within : r ≤ length line
  pub none : (i : ℕ) → from ≤ i → i < r → separator (get_or line i 0) ≡ true → ⊥
  pub parts : r < length line → separator (get_or line r 0) ≡ true
