-- The byte order mark is told by the first three bytes, so a first part loses it as the whole text does.
-- Assumes nothing.
use mathlib.Core.Path.{◌≡◌, refl, ◌∙◌, sym, ap}
use mathlib.Core.Bool.{Bool, true, false, ◌&&◌, cond}
use mathlib.Core.List.{List, ◌++◌}
use Prim.Native.Nat.{ℕ, ◌≤◌}
use native.Mathlib.Omega.{arith}
use lib.Dec.{eqb}
use lib.ListN.{length, get_or, drop, get_or-append}
use lib.Seq.{drop-append-le}
use Rattle.delivery_lines.specs.NoticeLines.{mark_length, unmarked}

mark-same : (p rest : List ℕ) → 3 ≤ length p → mark_length (p ++ rest) ≡ mark_length p
unfolding mark_length
mark-same p rest h =
    rw (get_or-append p rest 0 0 (omega arith), get_or-append p rest 0 1 (omega arith), get_or-append p rest 0 2 (omega arith)) refl

mark-most : (p : List ℕ) → 3 ≤ length p → mark_length p ≤ length p
unfolding mark_length
mark-most p h = go (eqb (get_or p 0 0) 239 && (eqb (get_or p 1 0) 187 && eqb (get_or p 2 0) 191))
  where
    go : (b : Bool) → cond b 3 0 ≤ length p
    go true = h
    go false = omega arith

-- a first part of three bytes or more loses its mark as the whole input does
pub unmarked-more : (p rest : List ℕ) → 3 ≤ length p → unmarked p ++ rest ≡ unmarked (p ++ rest)
unfolding unmarked
unmarked-more p rest h = sym (ap (λ (n : ℕ). drop n (p ++ rest)) (mark-same p rest h) ∙ drop-append-le (mark_length p) p rest (mark-most p h))
