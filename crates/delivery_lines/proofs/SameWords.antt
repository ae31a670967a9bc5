-- Two words that `==` compares, byte by byte.
-- Assumes nothing.
use mathlib.Core.Path.{◌≡◌, sym, ap}
use mathlib.Core.Bool.{Bool, true, false, ◌&&◌}
use mathlib.Core.List.{List}
use Prim.Native.Nat.{ℕ}
use native.Mathlib.Omega.{arith}
use lib.Dec.{eqb}
use lib.ListN.{length, get_or}
use borrow.Author.Tests.{eq-eqb, eqb-true}
use Rattle.std.proofs.lemmas.List.{ext_get_or}
use Rattle.std.specs.Cmp.Lexicographic.{pointwise, same_text, other_text}
use Rattle.std.specs.Bool.{nat_eq}
use Rattle.questions.specs.Search.{every}
use Rattle.questions.proofs.Search.{every-all, every-at}
use Rattle.questions.proofs.Bools.{both, and_both, is_false}

module _ (word name : List ℕ) where
  -- the words have the same length, and the same byte at each place
  abbrev pub same_bytes : Bool
  same_bytes = eqb (length word) (length name) && every (length name) (λ i. eqb (get_or word i 0) (get_or name i 0))

  -- equal words have the same length, and the same byte at each place
  equal : word ≡ name → same_bytes ≡ true
  equal e =
      and_both (eq-eqb (length word) (length name) (ap length e))
      (every-all (λ i. eqb (get_or word i 0) (get_or name i 0)) (length name)
      (λ i h. eq-eqb (get_or word i 0) (get_or name i 0) (ap (λ (w : List ℕ). get_or w i 0) e)))

  -- words of one length with the same byte at each place are equal
  alike : same_bytes ≡ true → word ≡ name
  alike t =
      let (l, b) = both (eqb (length word) (length name)) (every (length name) (λ i. eqb (get_or word i 0) (get_or name i 0))) t in
      let n : length word ≡ length name = eqb-true (length word) (length name) l in
      ext_get_or 0 word name n
      (λ i h. eqb-true (get_or word i 0) (get_or name i 0) (every-at (λ i. eqb (get_or word i 0) (get_or name i 0)) (length name) i b (omega (arith, n, h))))

  -- `==` says whether two words have the same length, and the same byte at each place
  pub told_bytes : (r : Bool) → r ≡ pointwise nat_eq word name
      → r ≡ same_bytes
  told_bytes true e = sym (equal (same_text word name e))
  told_bytes false e = sym (is_false same_bytes (λ t. other_text word name e (alike t)))
