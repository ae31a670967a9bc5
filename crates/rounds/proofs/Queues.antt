-- What a right queue holds: numbers 0 to 199, each at most once.
-- Assumes nothing.
use Prim.Native.Nat.{ℕ, zero, suc, ◌≤◌, ◌<◌}
use mathlib.Core.Path.{◌≡◌, refl}
use mathlib.Core.Bool.{true, not}
use mathlib.Core.List.{List}
use native.Mathlib.Nat.{le_refl}
use native.Mathlib.Omega.{arith}
use lib.Dec.{leb, eqb}
use lib.ListN.{take, get_or}
use borrow.Author.Tests.{eq-eqb, leb-true, not-true}
use Rattle.questions.specs.Search.{every}
use Rattle.questions.proofs.Bools.{clash, both}
use Rattle.questions.proofs.Search.{every-at, every-all}
use Rattle.rounds.proofs.Distinct.{Distinct, distinct_more}
use Rattle.rounds.specs.declared.Queue.{Queue}
use Rattle.rounds.specs.Rounds.{queued, queue_place_right, queue_right}

-- the places of a right queue
module _ (l : List ℕ) where
  distinct-places : (n : ℕ) → every n (queue_place_right l) ≡ true → Distinct (take n l)
  distinct-places zero e = record { once = λ x. omega arith; small = λ x h. refl }
  distinct-places (suc n) e =
      let p = every-at (queue_place_right l) (suc n) n e (le_refl (suc n)) in
      let (a, b) = both (leb (get_or l n 0) 199) (every n (λ j. not (eqb (get_or l j 0) (get_or l n 0)))) p in
      distinct_more l n (distinct-places n (every-all (queue_place_right l) n (λ k h. every-at (queue_place_right l) (suc n) k e (omega arith))))
      (leb-true _ _ a)
      (λ j h q. clash (eq-eqb (get_or l j 0) (get_or l n 0) q)
      (not-true (eqb (get_or l j 0) (get_or l n 0)) (every-at (λ j. not (eqb (get_or l j 0) (get_or l n 0))) n j b h)))

-- a right queue has every table at most once
pub distinct-queue : (q : Queue) → queue_right q ≡ true → Distinct (queued q)
unfolding queue_right
distinct-queue q e = distinct-places q.tables q.count (both (leb q.count 200) (every q.count (queue_place_right q.tables)) e).1

-- a right queue has at most 200 numbers, and none above 199
pub right-count : (q : Queue) → queue_right q ≡ true → q.count ≤ 200
unfolding queue_right
right-count q r = leb-true q.count 200 (both (leb q.count 200) (every q.count (queue_place_right q.tables)) r).0

-- every table number of a right queue is at most 199
pub right-number : (q : Queue) → queue_right q ≡ true → (i : ℕ) → i < q.count → get_or q.tables i 0 ≤ 199
unfolding queue_right
right-number q r i h =
    let p = every-at (queue_place_right q.tables) q.count i (both (leb q.count 200) (every q.count (queue_place_right q.tables)) r).1 h in
    leb-true (get_or q.tables i 0) 199 (both (leb (get_or q.tables i 0) 199) (every i (λ j. not (eqb (get_or q.tables j 0) (get_or q.tables i 0)))) p).0
