-- What the calls on a queue come to, question by question, and the queue that each fills.
-- Assumes nothing.
use mathlib.Core.Path.{◌≡◌, refl, ◌∙◌, sym, ap}
use mathlib.Core.Bool.{Bool, true, false, ◌||◌, cond}
use mathlib.Core.List.{List, [], ◌∷◌, ◌++◌}
use Prim.Native.Nat.{ℕ, suc, ◌+◌, ◌-◌, ◌≤◌, ◌<◌, min}
use mathlib.Core.Logic.{◌⊎◌, inl, inr}
use native.Mathlib.Numerals.{add-one}
use native.Mathlib.Omega.{arith}
use lib.Dec.{leb, eqb}
use lib.ListN.{length, set, take, drop, length-append, drop_of_length-le}
use lib.Seq.{length-take-le, length-slice, take-take, take_all}
use borrow.Author.Tests.{eqb-true, eq-eqb, ne_eqb, eqb-false, leb-true}
use Rattle.questions.specs.Questions.{Ask, ask, first_no}
use Rattle.questions.specs.Search.{one_of}
use Rattle.questions.proofs.Asks.{first-no}
use Rattle.questions.proofs.Bools.{clash, lt-or-ge}
use Rattle.rounds.proofs.QueuePlaces.{put-place, take_places}
use Rattle.rounds.proofs.Distinct.{times, room_for}
use Rattle.rounds.proofs.Queues.{distinct-queue}
use Rattle.rounds.specs.declared.Queue.{Queue}
use Rattle.rounds.specs.Rounds.{queued, queue_right, places200, queue_of, index_of, handled, handle_call, changed, without}

-- places filled with a list
pub placed : (xs ts : List ℕ) (n : ℕ) → ts ≡ places200 xs → length xs ≡ n → ts ≡ places200 (take n ts)
placed xs ts n e l = e ∙ ap places200 (sym (take_places xs n l)) ∙ ap (λ (zs : List ℕ). places200 (take n zs)) (sym e)

queue-is : (xs ts : List ℕ) (n : ℕ) → ts ≡ places200 xs → n ≡ length xs → record { tables = ts; count = n } ≡ queue_of xs
queue-is xs ts n e l = rw (e, l)

module _ (tables : List ℕ) (n : ℕ) (fits : n ≤ length tables) where
  -- as many as are taken
  module _ (b few : ℕ) (least : few ≡ min b n) where
    -- no more tables are taken than the queue has
    pub few-least : few ≤ n
    few-least = omega (arith, least)

    few-take : take few tables ≡ take b (take n tables)
    few-take = go (lt-or-ge b n)
      where
        go : (b < n) ⊎ (n ≤ b) → take few tables ≡ take b (take n tables)
        go (inl h) = let e : few ≡ b = omega (arith, least) in ap (λ (k : ℕ). take k tables) e ∙ sym (take-take b n tables (omega arith))
        go (inr h) =
            let e : few ≡ n = omega (arith, least) in
            ap (λ (k : ℕ). take k tables) e ∙ sym (take_all b (take n tables) (omega (arith, length-take-le n tables fits)))

    few-drop : drop few (take n tables) ≡ drop b (take n tables)
    few-drop = go (lt-or-ge b n)
      where
        go : (b < n) ⊎ (n ≤ b) → drop few (take n tables) ≡ drop b (take n tables)
        go (inl h) = let e : few ≡ b = omega (arith, least) in ap (λ (k : ℕ). drop k (take n tables)) e
        go (inr h) =
            drop_of_length-le (take n tables) {i = few} (omega (arith, least, length-take-le n tables fits))
            ∙ sym (drop_of_length-le (take n tables) {i = b} (omega (arith, length-take-le n tables fits)))

    few-length : few ≡ length (take b (take n tables))
    few-length = sym (ap (λ (l : List ℕ). length l) (sym few-take) ∙ length-take-le few tables (omega (arith, few-least)))

    -- the tables that are not taken are as many as the queue has less the taken
    pub rest-length : length (drop few (take n tables)) ≡ n - few
    rest-length = length-slice few n tables fits

    -- the queue that a call of the round fills
    pub handled-is : (first rest all : List ℕ) → first ≡ places200 (take few tables) → rest ≡ places200 (drop few (take n tables))
        → all ≡ places200 (take (n - few) rest ++ take few tables)
        → record { refusal = 0; taken = record { tables = first; count = few }; queue = record { tables = all; count = n } } ≡ handled (take n tables) b
    handled-is first rest all p r a = rw (
      queue-is (take b (take n tables)) first few p1 few-length,
      queue-is (drop b (take n tables) ++ take b (take n tables)) all n a1 a2,
    )
      where
        p1 : first ≡ places200 (take b (take n tables))
        p1 = p ∙ ap places200 few-take

        r1 : take (n - few) rest ≡ drop b (take n tables)
        r1 = ap (take (n - few)) r ∙ take_places (drop few (take n tables)) (n - few) rest-length ∙ few-drop

        a1 : all ≡ places200 (drop b (take n tables) ++ take b (take n tables))
        a1 = a ∙ ap (λ (l : List ℕ). places200 (l ++ take few tables)) r1 ∙ ap (λ (l : List ℕ). places200 (drop b (take n tables) ++ l)) few-take

        a2 : n ≡ length (drop b (take n tables) ++ take b (take n tables))
        a2 = omega (
          arith,
          length-append (drop b (take n tables)) (take b (take n tables)),
          few-length,
          few-least,
          rest-length,
          ap (λ (l : List ℕ). length l) few-drop,
        )

  -- the one that a joining fills
  pub joined_is : (table : ℕ) (all : List ℕ) → n < 200 → all ≡ places200 (take n tables)
      → ◌≡◌ {A = Queue} (record { tables = set all n table; count = n + 1 }) (queue_of (take n tables ++ (table ∷ [])))
  joined_is table all h e =
      let l = length-take-le n tables fits in
      queue-is (take n tables ++ (table ∷ [])) (set all n table) (n + 1) (put-place (take n tables) table all n l h e)
      (omega (arith, l, length-append (take n tables) (table ∷ [])))

  -- the one that a leaving fills
  pub left_is : (index : ℕ) (before all : List ℕ) → index < n → before ≡ places200 (take index tables)
      → all ≡ places200 (take index before ++ drop (index + 1) (take n tables))
      → ◌≡◌ {A = Queue} (record { tables = all; count = n - 1 }) (queue_of (take index (take n tables) ++ drop (index + 1) (take n tables)))
  left_is index before all h e a = queue-is (take index (take n tables) ++ drop (index + 1) (take n tables)) all (n - 1) a1 a2
    where
      l : length (take index tables) ≡ index
      l = length-take-le index tables (omega arith)

      t : take index (take n tables) ≡ take index tables
      t = take-take index n tables (omega arith)

      a1 : all ≡ places200 (take index (take n tables) ++ drop (index + 1) (take n tables))
      a1 = a ∙ ap (λ (zs : List ℕ). places200 (zs ++ drop (index + 1) (take n tables))) (ap (take index) e ∙ take_places (take index tables) index l ∙ sym t)

      a2 : n - 1 ≡ length (take index (take n tables) ++ drop (index + 1) (take n tables))
      a2 =
          omega (
            arith,
            length-append (take index (take n tables)) (drop (index + 1) (take n tables)),
            ap (λ (zs : List ℕ). length zs) t,
            l,
            length-slice (index + 1) n tables fits,
          )

-- a number stands in a list where its index is one of the list's
pub stands : (xs : List ℕ) (x : ℕ) → index_of xs x < length xs → one_of xs x ≡ true
unfolding one_of index_of
stands [] x h = absurd (omega arith)
stands (y ∷ xs) x h = go (eqb x y) h (stands xs x)
  where
    go : (c : Bool) → cond c 0 (suc (index_of xs x)) < suc (length xs) → (index_of xs x < length xs → one_of xs x ≡ true) → (c || one_of xs x) ≡ true
    go true h ih = refl
    go false h ih = ih (omega arith)

-- a number whose place is past the end is not in the list
pub stands-not : (xs : List ℕ) (x : ℕ) → length xs ≤ index_of xs x → one_of xs x ≡ false
unfolding one_of index_of
stands-not [] x h = refl
stands-not (y ∷ xs) x h = go (eqb x y) h (stands-not xs x)
  where
    go : (c : Bool) → suc (length xs) ≤ cond c 0 (suc (index_of xs x)) → (length xs ≤ index_of xs x → one_of xs x ≡ false) → (c || one_of xs x) ≡ false
    go true h ih = absurd (omega arith)
    go false h ih = ih (omega arith)

-- the list without a number that stands once
without-absent : (x : ℕ) (xs : List ℕ) → times xs x ≡ 0 → without x xs ≡ xs
unfolding without
without-absent x [] e = refl
without-absent x (z ∷ xs) e = go (eqb z x) _ e (without-absent x xs)
  where
    go : (c : Bool) (l : List ℕ) → cond c 1 0 + times xs x ≡ 0 → (times xs x ≡ 0 → without x xs ≡ xs) → cond c l (z ∷ without x xs) ≡ z ∷ xs
    go true l e ih = absurd (omega arith)
    go false l e ih = ap (λ (l : List ℕ). z ∷ l) (ih (omega arith))

without-once : (x : ℕ) (xs : List ℕ) → times xs x ≤ 1 → one_of xs x ≡ true → without x xs ≡ take (index_of xs x) xs ++ drop (suc (index_of xs x)) xs
unfolding without one_of index_of
without-once x [] h e = clash e refl
without-once x (z ∷ xs) h e = go (eqb x z) refl h e (without-once x xs)
  where
    less : 1 + times xs x ≤ 1 → times xs x ≡ 0
    less h = omega arith

    go : (c : Bool) → eqb x z ≡ c → cond (eqb z x) 1 0 + times xs x ≤ 1 → (c || one_of xs x) ≡ true
        → (times xs x ≤ 1 → one_of xs x ≡ true → without x xs ≡ take (index_of xs x) xs ++ drop (suc (index_of xs x)) xs)
        → cond (eqb z x) (without x xs) (z ∷ without x xs)
        ≡ take (cond c 0 (suc (index_of xs x))) (z ∷ xs) ++ drop (suc (cond c 0 (suc (index_of xs x)))) (z ∷ xs)
    go true q h e ih =
        let s : eqb z x ≡ true = eq-eqb z x (sym (eqb-true x z q)) in
        rw s (without-absent x xs (less (rw s at h)))
    go false q h e ih =
        let s : eqb z x ≡ false = ne_eqb z x (λ r. eqb-false x z q (sym r)) in
        rw s (ap (λ (l : List ℕ). z ∷ l) (ih (omega arith) e))

module _ (q : Queue) where
  -- the call of the round, by its first question answered no
  module _ (b : ℕ) where
    -- a round of a queue that is not right is refused with 10
    pub handle-10 : queue_right q ≡ false → handle_call q b ≡ record { refusal = 10; taken = queue_of []; queue = q }
    unfolding handle_call first_no
    handle-10 r = rw r

    module _ (r : queue_right q ≡ true) where
      -- a round with a size below 1 is refused with 30
      pub handle-small : leb 1 b ≡ false → handle_call q b ≡ record { refusal = 30; taken = queue_of []; queue = q }
      unfolding handle_call first_no
      handle-small s = rw (r, s)

      module _ (s : leb 1 b ≡ true) where
        -- a round with a size above 200 is refused with 30
        pub handle-large : leb b 200 ≡ false → handle_call q b ≡ record { refusal = 30; taken = queue_of []; queue = q }
        unfolding handle_call first_no
        handle-large t = rw (r, s, t)

        -- a round of a right queue with a size from 1 to 200 is done
        pub handle-done : leb b 200 ≡ true → handle_call q b ≡ handled (queued q) b
        unfolding handle_call first_no
        handle-done t = rw (r, s, t)

  -- a joining or leaving: where the first of the questions left is answered no, its number is the refusal
  pub change-no : (asks : List Ask) (tables : List ℕ) (n : ℕ) {b : Bool} (rest : List Ask) → first_no asks ≡ first_no (ask (suc n) b ∷ rest) → b ≡ false
      → record { refusal = suc n; queue = q } ≡ changed q asks tables
  unfolding changed
  change-no asks tables n rest e f =
      let z : first_no asks ≡ suc n = e ∙ first-no (suc n) rest f in
      rw (z, ne_eqb (suc n) 0 (λ z. absurd (omega arith)))

  -- where no question refuses, the queue is one of these numbers
  pub change-yes : (asks : List Ask) (tables : List ℕ) → first_no asks ≡ 0 → record { refusal = 0; queue = queue_of tables } ≡ changed q asks tables
  unfolding changed
  change-yes asks tables e = rw e

  module _ (table : ℕ) (fits : q.count ≤ length q.tables) where
    abbrev index : ℕ
    index = index_of (queued q) table

    long : length (queued q) ≡ q.count
    long = length-take-le q.count q.tables fits

    -- a table whose index is below the count is queued
    pub queued-there : index < q.count → one_of (queued q) table ≡ true
    queued-there h = stands (queued q) table (omega (arith, long))

    -- a table whose index is not below the count is not queued
    pub not-queued : q.count ≤ index → one_of (queued q) table ≡ false
    not-queued h = stands-not (queued q) table (omega (arith, long))

    module _ (r : queue_right q ≡ true) where
      -- a joining finds room
      pub join-room : leb table 199 ≡ true → one_of (queued q) table ≡ false → q.count < 200
      join-room s h = omega (arith, room_for (queued q) table (distinct-queue q r) h (leb-true table 199 s), long)

      -- the queue without a table is the queue without its index
      pub left_out : index < q.count → take index (queued q) ++ drop (index + 1) (queued q) ≡ without table (queued q)
      left_out h = sym (rw (add-one index) (without-once table (queued q) ((distinct-queue q r).once table) (queued-there h)))
