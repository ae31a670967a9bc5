-- Every call leaves a right queue right, an accepted joining finds a place, and what a call takes is a right queue too.
-- Assumes nothing.
use Prim.Native.Nat.{ℕ, zero, suc, ◌+◌, ◌-◌, ◌≤◌, ◌<◌}
use mathlib.Core.Path.{◌≡◌, refl, ◌∙◌, sym, ap}
use mathlib.Core.Bool.{Bool, true, false, not, cond}
use mathlib.Core.Logic.{◌⊎◌, inl, inr}
use mathlib.Core.List.{List, [], ◌∷◌, ◌++◌}
use native.Mathlib.Nat.{le_refl, add_comm}
use native.Mathlib.Omega.{arith}
use lib.Dec.{eqb}
use lib.ListN.{length, take, drop, get_or, replicate, get_or-append, take-append-drop}
use borrow.Author.Tests.{eqb-true, eq-eqb, ne_eqb, leb-true, le-leb, not-true}
use Rattle.questions.specs.Questions.{Ask, first_no}
use Rattle.questions.specs.Search.{one_of}
use Rattle.questions.proofs.Asks.{none-no}
use Rattle.questions.proofs.Bools.{and_both, lt-or-ge}
use Rattle.questions.proofs.Search.{every-all}
use Rattle.rounds.proofs.Distinct.{times, Distinct, times-append, no-fewer, joined-distinct, at-most-200, room_for}
use Rattle.rounds.proofs.Queues.{distinct-queue}
use Rattle.rounds.specs.declared.Queue.{Queue}
use Rattle.rounds.specs.Rounds.{queued, queue_place_right, queue_right, places200, queue_of, table_number_right, handle_asks, handle_call, changed, join_asks}
use Rattle.rounds.specs.Rounds.{join_call, leave_asks, without, leave_call}

-- the first ones alone: no other numbers
first-distinct : (b : ℕ) (xs : List ℕ) → Distinct xs → Distinct (take b xs)
first-distinct b xs d =
    record {
      once = λ x. omega (arith, fewer x, d.once x);
      small = λ x h. omega (arith, fewer x, d.small x h);
    }
  where
    fewer : (x : ℕ) → times (take b xs) x ≤ times xs x
    fewer x = omega (arith, times-append (take b xs) (drop b xs) x, ap (λ (l : List ℕ). times l x) (take-append-drop b xs))

-- the first ones put at the end: the same numbers
times-handled : (b : ℕ) (xs : List ℕ) (x : ℕ) → times (drop b xs ++ take b xs) x ≡ times xs x
times-handled b xs x =
    times-append (drop b xs) (take b xs) x ∙ add_comm (times (drop b xs) x) (times (take b xs) x)
    ∙ sym (times-append (take b xs) (drop b xs) x) ∙ ap (λ (l : List ℕ). times l x) (take-append-drop b xs)

handled-distinct : (b : ℕ) (xs : List ℕ) → Distinct xs → Distinct (drop b xs ++ take b xs)
handled-distinct b xs d = record { once = λ x. omega (arith, times-handled b xs x, d.once x); small = λ x h. times-handled b xs x ∙ d.small x h }

-- leaving adds none
times-without : (y : ℕ) (xs : List ℕ) (x : ℕ) → times (without y xs) x ≤ times xs x
unfolding without
times-without y [] x = le_refl 0
times-without y (z ∷ xs) x = go (eqb z y) (times-without y xs x)
  where
    go : (c : Bool) → times (without y xs) x ≤ times xs x → times (cond c (without y xs) (z ∷ without y xs)) x ≤ cond (eqb z x) 1 0 + times xs x
    go true h = omega arith
    go false h = omega arith

left-distinct : (y : ℕ) (xs : List ℕ) → Distinct xs → Distinct (without y xs)
left-distinct y xs d = record { once = λ x. omega (arith, times-without y xs x, d.once x); small = λ x h. omega (arith, times-without y xs x, d.small x h) }

-- from the numbers to their places: a number at a place stands in the list; at two places, twice
stands_at : (xs : List ℕ) (i : ℕ) → i < length xs → 1 ≤ times xs (get_or xs i 0)
stands_at [] i h = absurd (omega arith)
stands_at (y ∷ xs) zero h = rw (eq-eqb y y refl) (omega arith)
stands_at (y ∷ xs) (suc i) h = omega (arith, stands_at xs i (omega arith), no-fewer (eqb y (get_or xs i 0)) (times xs (get_or xs i 0)))

stands-twice : (xs : List ℕ) (j i : ℕ) → j < i → i < length xs → get_or xs j 0 ≡ get_or xs i 0 → 2 ≤ times xs (get_or xs i 0)
stands-twice [] j i g h e = absurd (omega arith)
stands-twice (y ∷ xs) j zero g h e = absurd (omega arith)
stands-twice (y ∷ xs) zero (suc i) g h e = rw (eq-eqb y (get_or xs i 0) e) (omega (arith, stands_at xs i (omega arith)))
stands-twice (y ∷ xs) (suc j) (suc i) g h e =
    omega (arith, stands-twice xs j i (omega arith) (omega arith) e, no-fewer (eqb y (get_or xs i 0)) (times xs (get_or xs i 0)))

-- a queue of such numbers is right
module _ (xs : List ℕ) (d : Distinct xs) where
  abbrev tables : List ℕ
  tables = (queue_of xs).tables

  place : (i : ℕ) → i < length xs → queue_place_right tables i ≡ true
  unfolding places200
  place i h =
      let e = get_or-append xs (replicate (200 - length xs) 0) 0 i h in
      and_both (le-leb (get_or tables i 0) 199 (rw e (small (lt-or-ge (get_or xs i 0) 200))))
      (every-all (λ j. not (eqb (get_or tables j 0) (get_or tables i 0))) i
      (λ j g. rw (e, get_or-append xs (replicate (200 - length xs) 0) 0 j (omega arith))
      (ap not (ne_eqb (get_or xs j 0) (get_or xs i 0) (λ q. absurd (omega (arith, stands-twice xs j i g h q, d.once (get_or xs i 0))))))))
    where
      small : (get_or xs i 0 < 200) ⊎ (200 ≤ get_or xs i 0) → get_or xs i 0 ≤ 199
      small (inl l) = omega arith
      small (inr l) = absurd (omega (arith, stands_at xs i h, d.small (get_or xs i 0) l))

  right-queue : queue_right (queue_of xs) ≡ true
  unfolding queue_right
  right-queue = and_both (le-leb (length xs) 200 (at-most-200 xs d)) (every-all (queue_place_right tables) (length xs) (λ i h. place i h))

-- the empty queue is right
pub empty_right : queue_right (queue_of []) ≡ true
empty_right = right-queue [] (record { once = λ x. omega arith; small = λ x h. refl })

-- each call
module _ (q : Queue) (r : queue_right q ≡ true) where
  changed-right : (asks : List Ask) (xs : List ℕ) → (first_no asks ≡ 0 → Distinct xs) → queue_right (changed q asks xs).queue ≡ true
  unfolding changed
  changed-right asks xs d = go (eqb (first_no asks) 0) refl
    where
      go : (b : Bool) → eqb (first_no asks) 0 ≡ b → queue_right (changed q asks xs).queue ≡ true
      go true e = rw e (right-queue xs (d (eqb-true _ _ e)))
      go false e = rw e r

  -- a right queue is right after a round
  pub handle-right : (b : ℕ) → queue_right (handle_call q b).queue ≡ true
  unfolding handle_call
  handle-right b = go (eqb (first_no (handle_asks q b)) 0) refl
    where
      go : (c : Bool) → eqb (first_no (handle_asks q b)) 0 ≡ c → queue_right (handle_call q b).queue ≡ true
      go true e = rw e (right-queue (drop b (queued q) ++ take b (queued q)) (handled-distinct b (queued q) (distinct-queue q r)))
      go false e = rw e r

  -- a right queue is right after a table leaves
  pub leave-right : (y : ℕ) → queue_right (leave_call q y).queue ≡ true
  unfolding leave_call
  leave-right y = changed-right (leave_asks q y) (without y (queued q)) (λ e. left-distinct y (queued q) (distinct-queue q r))

-- what an accepted joining knows
record Joining (q : Queue) (table : ℕ) : Type 0 where
  distinct : Distinct (queued q)
  new : one_of (queued q) table ≡ false
  most : table ≤ 199

joining : (q : Queue) (table : ℕ) → first_no (join_asks q table) ≡ 0 → Joining q table
joining q table e =
    let (a, e1) = none-no 9 (queue_right q) _ e in
    let (b, e2) = none-no 29 (table_number_right table) _ e1 in
    let (c, e3) = none-no 30 (not (one_of (queued q) table)) _ e2 in
    record { distinct = distinct-queue q a; new = not-true (one_of (queued q) table) c; most = leb-true table 199 b }

-- a right queue is right after a table joins
pub join-right : (q : Queue) → queue_right q ≡ true → (y : ℕ) → queue_right (join_call q y).queue ≡ true
unfolding join_call
join-right q r y =
    changed-right q r (join_asks q y) (queued q ++ (y ∷ []))
    (λ e. let j = joining q y e in joined-distinct (queued q) y j.distinct j.new j.most)

-- it finds a place
pub has_room : (q : Queue) (table : ℕ) → first_no (join_asks q table) ≡ 0 → length (queued q) < 200
has_room q table e = let j = joining q table e in room_for (queued q) table j.distinct j.new j.most

-- the numbers that a call takes are a right queue too
pub taken-right : (q : Queue) (b : ℕ) → queue_right (handle_call q b).taken ≡ true
unfolding handle_call
taken-right q b = go (eqb (first_no (handle_asks q b)) 0) refl
  where
    go : (c : Bool) → eqb (first_no (handle_asks q b)) 0 ≡ c → queue_right (handle_call q b).taken ≡ true
    go true e =
        let (r, e1) = none-no 9 (queue_right q) _ (eqb-true _ _ e) in
        rw e (right-queue (take b (queued q)) (first-distinct b (queued q) (distinct-queue q r)))
    go false e = rw e empty_right
