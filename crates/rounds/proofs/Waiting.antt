-- A table waits at most as many accepted calls of the round as its place, divided by b and rounded up: each of them takes it or moves it up by b
-- places, and nothing else moves it back.
-- Assumes nothing.
use Prim.Native.Nat.{ℕ, zero, suc, ◌+◌, ◌-◌, ◌*◌, ◌≤◌, ◌<◌}
use mathlib.Core.Path.{◌≡◌, refl, ◌∙◌, sym, ap}
use mathlib.Core.Bool.{Bool, true, false, ◌&&◌, ◌||◌, cond}
use mathlib.Core.Logic.{◌⊎◌, inl, inr}
use mathlib.Core.List.{List, [], ◌∷◌, ◌++◌, append_assoc}
use native.Mathlib.Nat.{mul-zero, zero-add, sub-zero, div-lt_iff_lt-mul, mul_comm, mul-add, mul-one}
use native.Mathlib.Omega.{arith}
use lib.Dec.{ltb, eqb}
use lib.ListN.{length, take, drop, get_or, replicate, length-drop}
use lib.Seq.{take-append_seam, take-append-le, drop-append-le, take-append-add, split_at, length-take-le}
use borrow.Author.Tests.{eq-eqb, ne_eqb, lt-ltb, eqb-true}
use Rattle.questions.specs.Questions.{Ask, first_no}
use Rattle.questions.specs.Search.{one_of}
use Rattle.questions.proofs.Bools.{clash, both, and_both, or_left, or_right, lt-or-ge}
use Rattle.rounds.proofs.Rights.{handle-right, join-right, leave-right, has_room}
use Rattle.rounds.specs.declared.Queue.{Queue}
use Rattle.rounds.specs.declared.Handled.{Handled}
use Rattle.rounds.specs.declared.Changed.{Changed}
use Rattle.rounds.specs.Rounds.{queued, queue_right, places200, queue_of, handle_asks, handled, handle_call, changed, join_asks, join_call, leave_asks, without}
use Rattle.rounds.specs.Rounds.{leave_call}
use Rattle.rounds.specs.Waiting.{Event, handle, join, leave, queue_run, call_count, calls_in, same_at, stays_same, takes, taken_within, leaves_in, rounded_up}
use Rattle.rounds.specs.Waiting.{Waiting}

-- the numbers of a queue of numbers
queued-of : (xs : List ℕ) → queued (queue_of xs) ≡ xs
unfolding places200
queued-of xs = take-append_seam xs (replicate (200 - length xs) 0)

-- a number stands in a list that has it
here : (s : List ℕ) (x : ℕ) (t : List ℕ) → one_of (s ++ (x ∷ t)) x ≡ true
unfolding one_of
here [] x t = rw (eq-eqb x x refl)
here (y ∷ s) x t = or_right (eqb x y) (here s x t)

-- a table among the first b is taken
first_taken : (b : ℕ) (s : List ℕ) (x : ℕ) (t : List ℕ) → length s < b → one_of (take b (s ++ (x ∷ t))) x ≡ true
first_taken b s x t h =
    let e : b ≡ length s + suc (b - length s - 1) = omega arith in
    ap (λ (n : ℕ). one_of (take n (s ++ (x ∷ t))) x) e
    ∙ ap (λ (l : List ℕ). one_of l x) (take-append-add s (x ∷ t) (suc (b - length s - 1)))
    ∙ here s x (take (b - length s - 1) t)

-- one further back moves up by b
moved_up : (b : ℕ) (s : List ℕ) (x : ℕ) (t : List ℕ) → b ≤ length s → drop b (s ++ (x ∷ t)) ++ take b (s ++ (x ∷ t)) ≡ drop b s ++ (x ∷ (t ++ take b s))
moved_up b s x t h = rw (drop-append-le b s (x ∷ t) h, take-append-le b s (x ∷ t) h) (append_assoc (drop b s) (x ∷ t) (take b s))

-- leaving takes no other table away, and moves none back
without-append : (y : ℕ) (s t : List ℕ) → without y (s ++ t) ≡ without y s ++ without y t
unfolding without
without-append y [] t = refl
without-append y (z ∷ s) t = go (eqb z y) (without-append y s t)
  where
    go : (c : Bool) → without y (s ++ t) ≡ without y s ++ without y t
        → cond c (without y (s ++ t)) (z ∷ without y (s ++ t)) ≡ cond c (without y s) (z ∷ without y s) ++ without y t
    go true e = e
    go false e = ap (λ (l : List ℕ). z ∷ l) e

without_fewer : (y : ℕ) (s : List ℕ) → length (without y s) ≤ length s
unfolding without
without_fewer y [] = omega arith
without_fewer y (z ∷ s) = go (eqb z y) (without_fewer y s)
  where
    go : (c : Bool) → length (without y s) ≤ length s → length (cond c (without y s) (z ∷ without y s)) ≤ suc (length s)
    go true e = omega arith
    go false e = omega arith

without_other : (y x : ℕ) (t : List ℕ) → eqb x y ≡ false → without y (x ∷ t) ≡ x ∷ without y t
unfolding without
without_other y x t e = rw e

neither : (a c : Bool) → (a || c) ≡ false → (a ≡ false) × (c ≡ false)
neither true c e = clash refl e
neither false c e = (refl, e)

-- each call, accepted and refused
module _ (q : Queue) (b : ℕ) where
  handle-yes : eqb (first_no (handle_asks q b)) 0 ≡ true → handle_call q b ≡ handled (queued q) b
  unfolding handle_call
  handle-yes e = rw e

  handle-no : eqb (first_no (handle_asks q b)) 0 ≡ false → handle_call q b ≡ record { refusal = first_no (handle_asks q b); taken = queue_of []; queue = q }
  unfolding handle_call
  handle-no e = rw e

-- an accepted call has the b that stays the same
same-b : (b : ℕ) (q : Queue) (other : ℕ) → same_at b q (handle other) ≡ true → eqb (handle_call q other).refusal 0 ≡ true → other ≡ b
same-b b q other o e = eqb-true other b (rw e at o)

-- a refused one does not count
not-counted : (q : Queue) (b : ℕ) → eqb (handle_call q b).refusal 0 ≡ false → call_count q (handle b) ≡ 0
not-counted q b e = rw e

module _ (q : Queue) (asks : List Ask) (tables : List ℕ) where
  changed-yes : eqb (first_no asks) 0 ≡ true → changed q asks tables ≡ record { refusal = 0; queue = queue_of tables }
  unfolding changed
  changed-yes e = rw e

  changed-no : eqb (first_no asks) 0 ≡ false → changed q asks tables ≡ record { refusal = first_no asks; queue = q }
  unfolding changed
  changed-no e = rw e

-- n calls take as many places as one and n − 1
one_more : (b n : ℕ) → b * (1 + n) ≡ b + b * n
one_more b n = mul-add b 1 n ∙ ap (λ (m : ℕ). m + b * n) (mul-one b)

-- a table with fewer than b · n before it is taken within n calls of the events that follow, whatever the queue then is
abbrev Waits : ℕ → List Event → ℕ → Type 0
Waits b es x = (n : ℕ) (q : Queue) (s t : List ℕ) → queued q ≡ s ++ (x ∷ t) → stays_same b q es ≡ true → leaves_in q es x ≡ false → length s < b * n
    → n ≤ calls_in q es → taken_within n q es x ≡ true

-- some calls are left
some_left : (b n k : ℕ) → k < b * n → ltb 0 n ≡ true
some_left b zero k h = absurd (omega (arith, mul-zero b))
some_left b (suc n) k h = lt-ltb 0 (suc n) (omega arith)

module _ (b : ℕ) (es : List Event) (x : ℕ) (later : Waits b es x) (q : Queue) (s t : List ℕ) (e : queued q ≡ s ++ (x ∷ t)) where
  abbrev rotated : Queue
  rotated = queue_of (drop b (queued q) ++ take b (queued q))

  -- an accepted call takes the table, or moves it up
  handle-accepted : (n : ℕ) → stays_same b rotated es ≡ true → leaves_in rotated es x ≡ false → length s < b * (1 + n) → n ≤ calls_in rotated es
      → (one_of (queued (queue_of (take b (queued q)))) x || taken_within n rotated es x) ≡ true
  handle-accepted n u l h m = side (lt-or-ge (length s) b)
    where
      side : (length s < b) ⊎ (b ≤ length s) → (one_of (queued (queue_of (take b (queued q)))) x || taken_within n rotated es x) ≡ true
      side (inl k) =
          or_left (taken_within n rotated es x)
          (ap (λ (l : List ℕ). one_of l x) (queued-of (take b (queued q)) ∙ ap (take b) e) ∙ first_taken b s x t k)
      side (inr k) =
          or_right (one_of (queued (queue_of (take b (queued q)))) x)
          (later n rotated (drop b s) (t ++ take b s)
          (queued-of (drop b (queued q) ++ take b (queued q)) ∙ ap (λ (l : List ℕ). drop b l ++ take b l) e ∙ moved_up b s x t k)
          u
          l
          (omega (arith, length-drop b s, one_more b n))
          m)

  -- what a call of the round leaves of the events
  abbrev Handles : ℕ → ℕ → Type 0
  Handles n other = (takes q (handle other) x || taken_within (suc n - call_count q (handle other)) (handle_call q other).queue es x) ≡ true

  handle-next : (n other : ℕ) → same_at b q (handle other) ≡ true → stays_same b (handle_call q other).queue es ≡ true
      → leaves_in (handle_call q other).queue es x ≡ false
      → length s < b * suc n → suc n ≤ call_count q (handle other) + calls_in (handle_call q other).queue es → Handles n other
  handle-next n other o u l h m = go (eqb (first_no (handle_asks q other)) 0) refl
    where
      go : (a : Bool) → eqb (first_no (handle_asks q other)) 0 ≡ a → Handles n other
      go true a =
          let accepted : handle_call q other ≡ handled (queued q) other = handle-yes q other a in
          let same : other ≡ b = same-b b q other o (ap (λ (c : Handled). eqb c.refusal 0) accepted) in
          let j : handle_call q other ≡ handled (queued q) b = accepted ∙ ap (handled (queued q)) same in
          let m1 : suc n ≤ 1 + calls_in rotated es = rw j at m in
          let one_less : suc n - 1 ≡ n = omega arith in
          let g : (one_of (queued (queue_of (take b (queued q)))) x || taken_within (suc n - 1) rotated es x) ≡ true =
          rw one_less (handle-accepted n (rw j at u) (rw j at l) (omega (arith, one_more b n)) (omega arith)) in
          rw j g
      go false a =
          let j : handle_call q other ≡ record { refusal = first_no (handle_asks q other); taken = queue_of []; queue = q } = handle-no q other a in
          let k : call_count q (handle other) ≡ 0 = not-counted q other (ap (λ (c : Handled). eqb c.refusal 0) j ∙ a) in
          or_right (takes q (handle other) x)
          (rw (k, sub-zero (suc n)) (later (suc n) (handle_call q other).queue s t (ap (λ (c : Handled). queued c.queue) j ∙ e) u l h
          (rw (k, zero-add (calls_in (handle_call q other).queue es)) at m)))

  handle-waits : (n other : ℕ) → stays_same b q (handle other ∷ es) ≡ true → leaves_in q (handle other ∷ es) x ≡ false → length s < b * n
      → n ≤ calls_in q (handle other ∷ es) → taken_within n q (handle other ∷ es) x ≡ true
  unfolding calls_in stays_same taken_within leaves_in
  handle-waits zero other u l h m = absurd (omega (arith, mul-zero b))
  handle-waits (suc n) other u l h m =
      let (o, Later-same) = both (same_at b q (handle other)) (stays_same b (handle_call q other).queue es) u in
      and_both (some_left b (suc n) (length s) h) (handle-next n other o Later-same l h m)

  -- a joining
  join-next : (n y : ℕ) (r : Changed) → r ≡ changed q (join_asks q y) (queued q ++ (y ∷ [])) → stays_same b r.queue es ≡ true
      → leaves_in r.queue es x ≡ false → length s < b * n → n ≤ calls_in r.queue es → taken_within n r.queue es x ≡ true
  join-next n y r d u l h m = go (eqb (first_no (join_asks q y)) 0) refl
    where
      go : (a : Bool) → eqb (first_no (join_asks q y)) 0 ≡ a → taken_within n r.queue es x ≡ true
      go true a =
          let j : r ≡ record { refusal = 0; queue = queue_of (queued q ++ (y ∷ [])) } = d ∙ changed-yes q (join_asks q y) (queued q ++ (y ∷ [])) a in
          later n r.queue s (t ++ (y ∷ []))
          (ap (λ (c : Changed). queued c.queue) j ∙ queued-of (queued q ++ (y ∷ [])) ∙ ap (λ (l : List ℕ). l ++ (y ∷ [])) e ∙
          append_assoc s (x ∷ t) (y ∷ []))
          u l h m
      go false a =
          let j : r ≡ record { refusal = first_no (join_asks q y); queue = q } = d ∙ changed-no q (join_asks q y) (queued q ++ (y ∷ [])) a in
          later n r.queue s t (ap (λ (c : Changed). queued c.queue) j ∙ e) u l h m

  join-waits : (n y : ℕ) → stays_same b q (join y ∷ es) ≡ true → leaves_in q (join y ∷ es) x ≡ false → length s < b * n → n ≤ calls_in q (join y ∷ es)
      → taken_within n q (join y ∷ es) x ≡ true
  unfolding calls_in stays_same taken_within leaves_in join_call
  join-waits n y u l h m = rw (sub-zero n)
      (and_both (some_left b n (length s) h) (join-next n y (join_call q y) refl u l h (rw (zero-add (calls_in (join_call q y).queue es)) at m)))

  -- a leaving, of another table
  leave-next : (n y : ℕ) (r : Changed) → r ≡ changed q (leave_asks q y) (without y (queued q)) → (eqb y x && eqb r.refusal 0) ≡ false
      → stays_same b r.queue es ≡ true → leaves_in r.queue es x ≡ false → length s < b * n → n ≤ calls_in r.queue es
      → taken_within n r.queue es x ≡ true
  leave-next n y r d o u l h m = go (eqb (first_no (leave_asks q y)) 0) refl
    where
      go : (a : Bool) → eqb (first_no (leave_asks q y)) 0 ≡ a → taken_within n r.queue es x ≡ true
      go true a =
          let j : r ≡ record { refusal = 0; queue = queue_of (without y (queued q)) } = d ∙ changed-yes q (leave_asks q y) (without y (queued q)) a in
          let other : eqb x y ≡ false = ne_eqb x y (λ z. clash (and_both (eq-eqb y x (sym z)) (ap (λ (c : Changed). eqb c.refusal 0) j)) o) in
          later n r.queue (without y s) (without y t)
          (ap (λ (c : Changed). queued c.queue) j ∙ queued-of (without y (queued q)) ∙ ap (without y) e ∙ without-append y s (x ∷ t) ∙
          ap (λ (l : List ℕ). without y s ++ l) (without_other y x t other))
          u l (omega (arith, without_fewer y s)) m
      go false a =
          let j : r ≡ record { refusal = first_no (leave_asks q y); queue = q } = d ∙ changed-no q (leave_asks q y) (without y (queued q)) a in
          later n r.queue s t (ap (λ (c : Changed). queued c.queue) j ∙ e) u l h m

  leave-waits : (n y : ℕ) → stays_same b q (leave y ∷ es) ≡ true → leaves_in q (leave y ∷ es) x ≡ false → length s < b * n → n ≤ calls_in q (leave y ∷ es)
      → taken_within n q (leave y ∷ es) x ≡ true
  unfolding calls_in stays_same taken_within leaves_in leave_call
  leave-waits n y u l h m =
      let (o, later-none) = neither (eqb y x && eqb (leave_call q y).refusal 0) (leaves_in (leave_call q y).queue es x) l in
      rw (sub-zero n) (and_both (some_left b n (length s) h)
      (leave-next n y (leave_call q y) refl o u later-none h (rw (zero-add (calls_in (leave_call q y).queue es)) at m)))

no-calls : (q : Queue) → calls_in q [] ≡ 0
unfolding calls_in
no-calls q = refl

waits : (b : ℕ) (es : List Event) (x : ℕ) → Waits b es x
waits b [] x zero q s t e u l h m = absurd (omega (arith, mul-zero b))
waits b [] x (suc n) q s t e u l h m = absurd (omega (arith, no-calls q))
waits b (handle other ∷ es) x n q s t e u l h m = handle-waits b es x (waits b es x) q s t e n other u l h m
waits b (join y ∷ es) x n q s t e u l h m = join-waits b es x (waits b es x) q s t e n y u l h m
waits b (leave y ∷ es) x n q s t e u l h m = leave-waits b es x (waits b es x) q s t e n y u l h m

-- a place, divided by b and rounded up: so many calls have at least as many places
rounded : (p b : ℕ) → 1 ≤ b → 1 ≤ p → p - 1 < b * rounded_up p b
rounded p b hb hp =
    let k : p + b - 1 < (rounded_up p b + 1) * b = (div-lt_iff_lt-mul {k = b} {x = p + b - 1} {y = rounded_up p b + 1} hb).0 (omega arith) in
    omega (arith, mul_comm (rounded_up p b + 1) b, mul-add b (rounded_up p b) 1, mul-one b)

-- the queue after the events
run-right : (es : List Event) (q : Queue) → queue_right q ≡ true → queue_right (queue_run q es) ≡ true
unfolding queue_run
run-right [] q r = r
run-right (handle b ∷ es) q r = run-right es (handle_call q b).queue (handle-right q r b)
run-right (join y ∷ es) q r = run-right es (join_call q y).queue (join-right q r y)
run-right (leave y ∷ es) q r = run-right es (leave_call q y).queue (leave-right q r y)

-- how long a table waits, that a right queue stays right, and that every accepted joining finds a place
pub waiting : (b : ℕ) (q : Queue) (es : List Event) → Waiting b q es
waiting b q es =
    record {
      within = λ p hp hl hb u l h.
          waits b es (get_or (queued q) (p - 1) 0) (rounded_up p b) q (take (p - 1) (queued q)) (drop (suc (p - 1)) (queued q))
          (split_at (queued q) (p - 1) 0 (omega arith)) u l
          (omega (arith, rounded p b hb hp, length-take-le (p - 1) (queued q) (omega arith)))
          h;
      right = run-right es q;
      room = has_room (queue_run q es);
    }
