-- The codes of three and of four bytes: a text is one where it is, byte by byte, its characters.
-- Assumes nothing.
use mathlib.Core.Path.{◌≡◌}
use mathlib.Core.Bool.{and_assoc, and-true}
use mathlib.Core.List.{List, [], ◌∷◌}
use Prim.Native.Nat.{ℕ}
use native.Mathlib.Omega.{arith}
use lib.Dec.{eqb}
use lib.ListN.{length}
use lib.Pointwise.{pointwise}
use Rattle.questions.specs.Search.{every}
use Rattle.product.specs.Fields.{is_code}

-- three bytes equal a code of three characters where they are that code
pub code-of-3 : (bytes : List ℕ) (a b c : ℕ) → length bytes ≡ 3 → pointwise eqb bytes (a ∷ b ∷ c ∷ []) ≡ is_code (a ∷ b ∷ c ∷ []) bytes
unfolding is_code every
code-of-3 (x ∷ y ∷ z ∷ []) a b c h = simp (and_assoc, and-true)
code-of-3 _ a b c h = absurd (omega arith)

-- four bytes equal a code of four characters where they are that code
pub code-of-4 : (bytes : List ℕ) (a b c d : ℕ) → length bytes ≡ 4 → pointwise eqb bytes (a ∷ b ∷ c ∷ d ∷ []) ≡ is_code (a ∷ b ∷ c ∷ d ∷ []) bytes
unfolding is_code every
code-of-4 (x ∷ y ∷ z ∷ w ∷ []) a b c d h = simp (and_assoc, and-true)
code-of-4 _ a b c d h = absurd (omega arith)
