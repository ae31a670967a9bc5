-- The months that left: none at the opening; and lists in which no number stands twice, as theirs.
-- Assumes nothing.
use mathlib.Core.Path.{◌≡◌, refl}
use mathlib.Core.Bool.{Bool, true, false, not, ◌&&◌}
use mathlib.Core.List.{List, [], ◌∷◌, ◌++◌, map}
use Prim.Native.Nat.{ℕ, zero, suc, ◌<◌}
use native.Mathlib.Omega.{arith}
use lib.Dec.{eqb}
use lib.ListN.{length, get_or}
use borrow.Author.Tests.{eq-eqb, not-true}
use Rattle.questions.specs.Search.{one_of}
use Rattle.questions.proofs.Bools.{clash, both, and_both, or_left, or_right, is_false}
use Rattle.calendar.specs.declared.Calendar.{Calendar}
use Rattle.product.specs.declared.Kind.{Kind}
use Rattle.listing.specs.declared.Maturity.{Maturity}
use Rattle.table_numbering.specs.NumberingLaws.{Rising}
use Rattle.table_numbering.proofs.MonthsRise.{rising-tail, rising-once}
use Rattle.history.specs.Book.{book_opened}
use Rattle.history.proofs.ListingNumbers.{one-append, listed-one}

-- 'no month has left' at the opening
pub none_left : (kind : Kind) (group : List ℕ) (size : ℕ) (cal : Calendar) (date k : ℕ) → one_of (book_opened kind group size cal date).gone k ≡ false
unfolding book_opened one_of
none_left kind group size cal date k = refl

-- no number stands in the list twice
abbrev pub once : List ℕ → Bool
once [] = true
once (x ∷ xs) = not (one_of xs x) && once xs

one_at : (xs : List ℕ) (i : ℕ) → i < length xs → one_of xs (get_or xs i 0) ≡ true
unfolding one_of
one_at [] i h = absurd (omega arith)
one_at (x ∷ xs) zero h = rw (eq-eqb x x refl)
one_at (x ∷ xs) (suc i) h = or_right (eqb (get_or xs i 0) x) (one_at xs i (omega arith))

-- so two places never hold the same
pub once-apart : (xs : List ℕ) → once xs ≡ true → (i j : ℕ) → i < j → j < length xs → get_or xs i 0 ≡ get_or xs j 0 → ⊥
once-apart xs o i zero l h e = omega arith
once-apart [] o i (suc j) l h e = omega arith
once-apart (x ∷ xs) o zero (suc j) l h e =
    clash (rw e (one_at xs j (omega arith))) (not-true (one_of xs x) (both (not (one_of xs x)) (once xs) o).0)
once-apart (x ∷ xs) o (suc i) (suc j) l h e = once-apart xs (both (not (one_of xs x)) (once xs) o).1 i j (omega arith) (omega arith) e

-- two lists that share nothing
pub once-append : (xs ys : List ℕ) → once xs ≡ true → once ys ≡ true → ((k : ℕ) → one_of xs k ≡ true → one_of ys k ≡ true → ⊥) → once (xs ++ ys) ≡ true
unfolding one_of
once-append [] ys o q h = q
once-append (x ∷ xs) ys o q h =
    and_both {a = not (one_of (xs ++ ys) x)}
    (rw (one-append xs ys x, not-true (one_of xs x) s.0, is_false (one_of ys x) (h x (or_left (one_of xs x) (eq-eqb x x refl)))))
    (once-append xs ys s.1 q (λ k t. h k (or_right (eqb k x) t)))
  where
    s : (not (one_of xs x) ≡ true) × (once xs ≡ true)
    s = both (not (one_of xs x)) (once xs) o

-- the months of a rising list
pub once-months : (ms : List Maturity) → Rising ms → once (map (λ m. m.key) ms) ≡ true
once-months [] rises = refl
once-months (m ∷ ms) rises = and_both {a = not (one_of (map (λ m. m.key) ms) m.key)} (rw (← listed-one ms m.key, rising-once m ms rises))
    (once-months ms (rising-tail m ms rises))
