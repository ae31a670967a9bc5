-- The loop that runs a lent list of calls, and the buffer of their answers.
-- Assumes nothing.
use mathlib.Core.Path.{◌≡◌, refl, ◌∙◌, sym, ap}
use mathlib.Core.Bool.{Bool, true, false}
use mathlib.Core.List.{List, [], ◌∷◌, ◌++◌, append-nil}
use Prim.Native.Nat.{ℕ, zero, suc, ◌+◌, ◌*◌, ◌/◌, ◌%◌, ◌≤◌, ◌<◌}
use native.Mathlib.Omega.{arith}
use lib.Dec.{leb}
use lib.ListN.{length, get_or, set, drop, length-append, length-drop, drop_of_length-le}
use lib.Seq.{drop-cons, append_snoc}
use Rattle.table.specs.declared.Table.{Table}
use Rattle.table.specs.declared.Outcome.{Outcome}
use Rattle.table.specs.Table.{roll_call, close_call, reopen_call}
use Rattle.table_measures.specs.declared.Measured.{Measured}
use Rattle.table_measures.specs.Measures.{measure_call}
use Rattle.history.specs.declared.Called.{Called}
use Rattle.history.specs.Book.{Call, Reply}
use Rattle.history.specs.History.{unpriced, uncounted, table_call, table_run, table_replies, reply_of}
use Rattle.table.specs.Table.{open_call}
use Rattle.questions.proofs.Bools.{both, clash}
use Rattle.questions.proofs.Search.{every-not}
use Rattle.questions.specs.Search.{every}
use borrow.Author.Tests.{eq-eqb, ne_eqb, le-leb, lt-leb, eqb-true, leb-true}
use Rattle.history_replay.specs.Replay.{short_in, call_of, call_at, calls_of, numbers_of, lengths_fit, kinds_fit, replay_fits, CallsMade, Replayed}
use Rattle.history.proofs.FromFile.{from-file}

-- a number that fits 16 bits is read as it is
pub short-large : (number : ℕ) → 65535 < number → 65535 ≡ short_in number
short-large number h = rw (lt-leb number 65535 h)

-- a number of at most 65535 is taken as it is
pub short-small : (number : ℕ) → number ≤ 65535 → number ≡ short_in number
short-small number h = rw (le-leb number 65535 h)

-- one call: 0 rolls, 1 closes, 2 reopens, 3 is a measure, and any other number rolls to no day
module _ (t : Table) (kind first second third number : ℕ) (r : Called) (d : number ≡ short_in first) where
  -- a call of kind 0 is a roll to its date
  pub rolls : (o : Outcome) → kind ≡ 0 → o ≡ roll_call t number → r ≡ unpriced o → r ≡ table_call t (call_of kind first second third)
  rolls o e q u = rw (eq-eqb kind 0 e, ← d) (u ∙ ap unpriced q)

  module _ (not-0 : kind ≡ 0 → ⊥) where
    -- a call of kind 2 is the reopening of its day
    pub reopens : (o : Outcome) → kind ≡ 2 → o ≡ reopen_call t number → r ≡ unpriced o → r ≡ table_call t (call_of kind first second third)
    reopens o e q u = rw (ne_eqb kind 0 not-0, eq-eqb kind 2 e, ← d) (u ∙ ap unpriced q)

    module _ (not-2 : kind ≡ 2 → ⊥) where
      -- a call of kind 3 is a measure with its numbers
      pub measures : (other : ℕ) (m : Measured) → other ≡ short_in second → kind ≡ 3 → m ≡ measure_call t number other third → r ≡ uncounted m
          → r ≡ table_call t (call_of kind first second third)
      measures other m f e q u = rw (ne_eqb kind 0 not-0, ne_eqb kind 2 not-2, eq-eqb kind 3 e, ← d, ← f) (u ∙ ap uncounted q)

      module _ (not-3 : kind ≡ 3 → ⊥) where
        -- a call of kind 1 is the closing of its day
        pub closes : (o : Outcome) → kind ≡ 1 → o ≡ close_call t number → r ≡ unpriced o → r ≡ table_call t (call_of kind first second third)
        closes o e q u = rw (ne_eqb kind 0 not-0, ne_eqb kind 2 not-2, ne_eqb kind 3 not-3, eq-eqb kind 1 e, ← d) (u ∙ ap unpriced q)

        -- a call of any other kind is a roll to 65535, which is no day
        pub others : (o : Outcome) → (kind ≡ 1 → ⊥) → o ≡ roll_call t 65535 → r ≡ unpriced o → r ≡ table_call t (call_of kind first second third)
        others o e q u = rw (ne_eqb kind 0 not-0, ne_eqb kind 2 not-2, ne_eqb kind 3 not-3, ne_eqb kind 1 e) (u ∙ ap unpriced q)

calls-length : (cs : List ℕ) → length (calls_of cs) ≡ length cs / 4
unfolding calls_of
calls-length [] = refl
calls-length (k ∷ []) = omega arith
calls-length (k ∷ d ∷ []) = omega arith
calls-length (k ∷ d ∷ x ∷ []) = omega arith
calls-length (k ∷ d ∷ x ∷ y ∷ cs) = omega (arith, calls-length cs)

numbers-length : (rs : List Reply) → length (numbers_of rs) ≡ 4 * length rs
unfolding numbers_of
numbers-length [] = refl
numbers-length (r ∷ rs) = omega (arith, numbers-length rs)

numbers-snoc : (rs : List Reply) (r : Reply) → numbers_of (rs ++ (r ∷ [])) ≡ numbers_of rs ++ (r.refusal ∷ r.entered ∷ r.left ∷ r.price ∷ [])
unfolding numbers_of
numbers-snoc [] r = refl
numbers-snoc (x ∷ rs) r = ap (λ (l : List ℕ). x.refusal ∷ x.entered ∷ x.left ∷ x.price ∷ l) (numbers-snoc rs r)

-- four stores after a full front
put_four : (p q : List ℕ) (x y z w a b c d : ℕ)
    → set (set (set (set (p ++ x ∷ y ∷ z ∷ w ∷ q) (length p) a) (suc (length p)) b) (suc (suc (length p))) c) (suc (suc (suc (length p)))) d
    ≡ p ++ a ∷ b ∷ c ∷ d ∷ q
put_four [] q x y z w a b c d = refl
put_four (v ∷ p) q x y z w a b c d = ap (λ (l : List ℕ). v ∷ l) (put_four p q x y z w a b c d)

append-four : (p : List ℕ) (a b c d : ℕ) (q : List ℕ) → (p ++ (a ∷ b ∷ c ∷ d ∷ [])) ++ q ≡ p ++ a ∷ b ∷ c ∷ d ∷ q
append-four [] a b c d q = refl
append-four (v ∷ p) a b c d q = ap (λ (l : List ℕ). v ∷ l) (append-four p a b c d q)

-- the next four numbers of a list
four-next : (l : List ℕ) (n : ℕ) → n + 4 ≤ length l
    → drop n l ≡ get_or l n 0 ∷ get_or l (suc n) 0 ∷ get_or l (suc (suc n)) 0 ∷ get_or l (suc (suc (suc n))) 0 ∷ drop (suc (suc (suc (suc n)))) l
four-next l n h =
    drop-cons l n 0 (omega arith) ∙
    ap (λ (r : List ℕ). get_or l n 0 ∷ r)
    (drop-cons l (suc n) 0 (omega arith) ∙ ap (λ (r : List ℕ). get_or l (suc n) 0 ∷ r)
    (drop-cons l (suc (suc n)) 0 (omega arith) ∙ ap (λ (r : List ℕ). get_or l (suc (suc n)) 0 ∷ r) (drop-cons l (suc (suc (suc n))) 0 (omega arith))))

-- the calls from i on
calls_drop : (cs : List ℕ) (i : ℕ) → 4 * i ≤ length cs → drop i (calls_of cs) ≡ calls_of (drop (4 * i) cs)
unfolding calls_of
calls_drop cs zero h = refl
calls_drop [] (suc i) h = absurd (omega arith)
calls_drop (k ∷ []) (suc i) h = absurd (omega arith)
calls_drop (k ∷ d ∷ []) (suc i) h = absurd (omega arith)
calls_drop (k ∷ d ∷ x ∷ []) (suc i) h = absurd (omega arith)
calls_drop (k ∷ d ∷ x ∷ y ∷ cs) (suc i) h =
    let u : suc (suc (suc (suc (4 * i)))) ≡ 4 * suc i = omega arith in
    calls_drop cs i (omega arith) ∙ ap (λ (n : ℕ). calls_of (drop n (k ∷ d ∷ x ∷ y ∷ cs))) u

calls-next : (cs : List ℕ) (i : ℕ) → 4 * i + 4 ≤ length cs → drop i (calls_of cs) ≡ call_at cs i ∷ drop (i + 1) (calls_of cs)
unfolding calls_of
calls-next cs i h =
    let u : 4 * i + 1 ≡ suc (4 * i) = omega arith in
    let v : 4 * i + 2 ≡ suc (suc (4 * i)) = omega arith in
    let x : 4 * i + 3 ≡ suc (suc (suc (4 * i))) = omega arith in
    let w : 4 * (i + 1) ≡ suc (suc (suc (suc (4 * i)))) = omega arith in
    rw (u, v, x, calls_drop cs i (omega arith), calls_drop cs (i + 1) (omega arith), w, four-next cs (4 * i) h)

-- four stores after the numbers of the calls that are done
store : (done : List Reply) (r : Reply) (i : ℕ) (before : List ℕ) → length done ≡ i → 4 * i + 4 ≤ length before
    → set (set (set (set (numbers_of done ++ drop (4 * i) before) (4 * i) r.refusal) (4 * i + 1) r.entered) (4 * i + 2) r.left) (4 * i + 3) r.price
    ≡ numbers_of (done ++ (r ∷ [])) ++ drop (4 * (i + 1)) before
store done r i before e h =
    let l : length (numbers_of done) ≡ 4 * i = omega (arith, numbers-length done) in
    let u : 4 * i + 1 ≡ suc (length (numbers_of done)) = omega arith in
    let v : 4 * i + 2 ≡ suc (suc (length (numbers_of done))) = omega arith in
    let x : 4 * i + 3 ≡ suc (suc (suc (length (numbers_of done)))) = omega arith in
    let w : 4 * (i + 1) ≡ suc (suc (suc (suc (4 * i)))) = omega arith in
    rw (u, v, x, w, four-next before (4 * i) h, numbers-snoc done r) (rw (← l) (placed (length (numbers_of done))))
  where
    placed : (n : ℕ) → set (set (set (set (numbers_of done ++ get_or before n 0 ∷ get_or before (suc n) 0 ∷ get_or before (suc (suc n)) 0
        ∷ get_or before (suc (suc (suc n))) 0 ∷ drop (suc (suc (suc (suc n)))) before) (length (numbers_of done)) r.refusal) (suc (length (numbers_of done)))
        r.entered) (suc (suc (length (numbers_of done)))) r.left) (suc (suc (suc (length (numbers_of done))))) r.price
        ≡ (numbers_of done ++ (r.refusal ∷ r.entered ∷ r.left ∷ r.price ∷ [])) ++ drop (suc (suc (suc (suc n)))) before
    placed n =
        put_four (numbers_of done) (drop (suc (suc (suc (suc n)))) before) (get_or before n 0) (get_or before (suc n) 0) (get_or before (suc (suc n)) 0)
        (get_or before (suc (suc (suc n))) 0) r.refusal r.entered r.left r.price
        ∙ sym (append-four (numbers_of done) r.refusal r.entered r.left r.price (drop (suc (suc (suc (suc n)))) before))

-- the state of the loop before call i
pub record Replaying (cs before : List ℕ) (start : Table) (buffer : List ℕ) (t : Table) (i : ℕ) : Type 0 where
  -- the replies to the calls made so far
  pub done : List Reply
  -- as many replies as calls made
  pub count : length done ≡ i
  -- the remaining calls from the table at this point lead to the table of the whole history
  pub table : table_run t (drop i (calls_of cs)) ≡ table_run start (calls_of cs)
  -- the replies so far and those to the remaining calls are the replies to the whole history
  pub replies : done ++ table_replies t (drop i (calls_of cs)) ≡ table_replies start (calls_of cs)
  -- the buffer holds the numbers of the replies so far, then what stood there before
  pub numbers : buffer ≡ numbers_of done ++ drop (4 * i) before

module _ (cs before : List ℕ) (start : Table) where
  -- the state before the first call
  pub begins : Replaying cs before start before start 0
  unfolding numbers_of
  begins = record { done = []; count = refl; table = refl; replies = refl; numbers = refl }

  module _ (whole : length cs % 4 ≡ 0) (room : length cs ≤ length before) where
    -- the buffer keeps its length
    pub long : (buffer : List ℕ) (t : Table) (i : ℕ) → Replaying cs before start buffer t i → i ≤ length cs / 4 → length buffer ≡ length before
    long buffer t i s h =
        ap length s.numbers ∙ length-append (numbers_of s.done) (drop (4 * i) before) ∙
        (omega (arith, numbers-length s.done, s.count, length-drop (4 * i) before))

    -- one more call is made and its reply is stored in the four places of the call
    pub turns : (buffer after : List ℕ) (t : Table) (i j : ℕ) (o : Called) → Replaying cs before start buffer t i → i < length cs / 4
        → o ≡ table_call t (call_at cs i)
        → after ≡ set (set (set (set buffer (4 * i) o.refusal) (4 * i + 1) o.entered) (4 * i + 2) o.left) (4 * i + 3) o.price → j ≡ i + 1
        → Replaying cs before start after o.table j
    unfolding table_run table_replies
    turns buffer after t i j o s h e q l =
        let n = calls-next cs i (omega arith) in
        rw l
        (record {
          done = s.done ++ (reply_of o ∷ []);
          count = length-append s.done (reply_of o ∷ []) ∙ (omega (arith, s.count));
          table = rw e (rw n at s.table);
          replies = append_snoc s.done (reply_of o) _ ∙ (rw e (rw n at s.replies));
          numbers = q ∙ rw s.numbers (store s.done (reply_of o) i before s.count (omega arith));
        })

    -- no call is left
    module _ (buffer : List ℕ) (t : Table) (i : ℕ) (s : Replaying cs before start buffer t i) (h : length cs / 4 ≤ i) (l : i ≤ length cs / 4) where
      none : drop i (calls_of cs) ≡ []
      none =
          let q : length (calls_of cs) ≤ i = omega (arith, calls-length cs) in
          drop_of_length-le (calls_of cs) q

      -- after the last call the table and the buffer are those of the whole history
      pub ends : CallsMade start cs before buffer t
      unfolding table_run table_replies
      ends =
          let e : 4 * i ≡ length cs = omega arith in
          let q : s.done ≡ table_replies start (calls_of cs) = sym (append-nil s.done) ∙ (rw none at s.replies) in
          record { table = rw none at s.table; answers = s.numbers ∙ rw (q, e) }

replies-length : (t : Table) (cs : List Call) → length (table_replies t cs) ≡ length cs
unfolding table_replies
replies-length t [] = refl
replies-length t (c ∷ cs) = ap suc (replies-length (table_call t c).table cs)

-- the buffer stays as long as it is
pub made-long : (t : Table) (cs before after : List ℕ) (r : Table) → length cs % 4 ≡ 0 → length cs ≤ length before → CallsMade t cs before after r
    → length after ≡ length before
made-long t cs before after r whole room m =
    ap length m.answers ∙ length-append (numbers_of (table_replies t (calls_of cs))) (drop (length cs) before) ∙
    (omega (arith, numbers-length (table_replies t (calls_of cs)), replies-length t (calls_of cs), calls-length cs, length-drop (length cs) before))

-- a list that does not fit: no call is made
pub not-run : (f id : List ℕ) (date : ℕ) (cs before : List ℕ) (o : Outcome) → o ≡ open_call f id date → replay_fits cs (length before) ≡ false
    → Replayed f id date cs before before (record { fits = false; refusal = o.refusal; table = o.table })
not-run f id date cs before o e q =
    record {
      fits = sym q;
      refusal = ap (λ (x : Outcome). x.refusal) e;
      made = λ t. clash t refl;
      idle = λ t. (ap (λ (x : Outcome). x.table) e, refl);
      history = λ z more. from-file f id date (sym (ap (λ (x : Outcome). x.refusal) e) ∙ z) (calls_of cs) more;
    }

-- a list that fits, when all calls are made
pub run-done : (f id : List ℕ) (date : ℕ) (cs before after : List ℕ) (o : Outcome) (t : Table) → o ≡ open_call f id date → replay_fits cs (length before) ≡ true
    → CallsMade o.table cs before after t
    → Replayed f id date cs before after (record { fits = true; refusal = o.refusal; table = t })
run-done f id date cs before after o t e q m =
    record {
      fits = sym q;
      refusal = ap (λ (x : Outcome). x.refusal) e;
      made = λ z. rw (← ap (λ (x : Outcome). x.table) e) m;
      idle = λ z. clash refl z;
      history = λ z more. from-file f id date (sym (ap (λ (x : Outcome). x.refusal) e) ∙ z) (calls_of cs) more;
    }

-- what a list that fits has
pub fit_parts : (cs : List ℕ) (buffer : ℕ) → replay_fits cs buffer ≡ true → (length cs % 4 ≡ 0) × (length cs ≤ buffer)
unfolding replay_fits
fit_parts cs buffer e =
    let (whole, room) = both _ _ (both (lengths_fit (length cs) buffer) (kinds_fit cs) e).0 in
    (eqb-true _ _ whole, leb-true _ _ room)

-- the kinds of a list, one after the other
module _ (cs : List ℕ) where
  -- call i has a kind of 0 to 3
  abbrev pub kind_at : ℕ → Bool
  kind_at i = leb (get_or cs (4 * i) 0) 3

  -- a call with a kind above 3 makes the list of calls not fit
  pub kinds-no : (i : ℕ) → i < length cs / 4 → 3 < get_or cs (4 * i) 0 → false ≡ kinds_fit cs
  unfolding kinds_fit
  kinds-no i h e = sym (every-not kind_at (length cs / 4) i (lt-leb (get_or cs (4 * i) 0) 3 e) h)

  -- kinds that fit at every call make the list of calls fit
  pub kinds-yes : (i : ℕ) → i ≤ length cs / 4 → length cs / 4 ≤ i → every i kind_at ≡ true → true ≡ kinds_fit cs
  unfolding kinds_fit
  kinds-yes i l h e =
      let q : i ≡ length cs / 4 = omega arith in
      sym (rw q at e)
