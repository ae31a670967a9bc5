-- Two ids of four bytes are the same list where their bytes are the same one by one.
-- Assumes nothing.
use mathlib.Core.Path.{◌≡◌, refl}
use mathlib.Core.Bool.{Bool, true, false, ◌&&◌}
use mathlib.Core.List.{List, [], ◌∷◌}
use Prim.Native.Nat.{ℕ}
use native.Mathlib.Omega.{arith}
use lib.Dec.{eqb}
use lib.ListN.{length}
use lib.Pointwise.{pointwise}
use Rattle.file_load.specs.Products.{same_id}

-- four tests, one after the other
four : (a b c d : Bool) → (a && (b && (c && (d && true)))) ≡ (a && b && c && d)
four false b c d = refl
four true false c d = refl
four true true false d = refl
four true true true false = refl
four true true true true = refl

-- the test of lists is the test of four bytes
pub same-bytes : (a b : List ℕ) → length a ≡ 4 → length b ≡ 4 → pointwise eqb a b ≡ same_id a b
unfolding same_id
same-bytes (w ∷ x ∷ y ∷ z ∷ []) (p ∷ q ∷ r ∷ s ∷ []) e f = four (eqb w p) (eqb x q) (eqb y r) (eqb z s)
same-bytes [] b e f = absurd (omega arith)
same-bytes (w ∷ []) b e f = absurd (omega arith)
same-bytes (w ∷ x ∷ []) b e f = absurd (omega arith)
same-bytes (w ∷ x ∷ y ∷ []) b e f = absurd (omega arith)
same-bytes (w ∷ x ∷ y ∷ z ∷ v ∷ more) b e f = absurd (omega arith)
same-bytes (w ∷ x ∷ y ∷ z ∷ []) [] e f = absurd (omega arith)
same-bytes (w ∷ x ∷ y ∷ z ∷ []) (p ∷ []) e f = absurd (omega arith)
same-bytes (w ∷ x ∷ y ∷ z ∷ []) (p ∷ q ∷ []) e f = absurd (omega arith)
same-bytes (w ∷ x ∷ y ∷ z ∷ []) (p ∷ q ∷ r ∷ []) e f = absurd (omega arith)
same-bytes (w ∷ x ∷ y ∷ z ∷ []) (p ∷ q ∷ r ∷ s ∷ v ∷ more) e f = absurd (omega arith)
