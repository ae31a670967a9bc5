-- The notices on a product's table one by one from the first: the table so far is the one that the calls so far leave.
-- Assumes nothing.
use mathlib.Core.Path.{◌≡◌, refl, ◌∙◌, sym, ap}
use mathlib.Core.Bool.{Bool, true, false, not, ◌||◌, cond}
use mathlib.Core.List.{List, [], ◌∷◌, ◌++◌, map}
use Prim.Native.Nat.{ℕ, zero, suc, ◌+◌, ◌*◌, ◌≤◌, ◌<◌}
use native.Mathlib.Numerals.{add-one}
use native.Mathlib.Omega.{arith}
use lib.Dec.{eqb}
use lib.ListN.{length, get_or, set, take, drop, length-append, length-set}
use lib.Seq.{take-suc-set, drop-set-lt, drop-drop}
use borrow.Author.Tests.{eqb-true, le-leb, lt-leb}
use Rattle.questions.proofs.Bools.{clash}
use Rattle.file_load.specs.Products.{same_id}
use Rattle.table.specs.declared.Table.{Table}
use Rattle.table.specs.declared.Outcome.{Outcome}
use Rattle.table.specs.Table.{sound, open_call}
use Rattle.history.specs.Book.{Reply}
use Rattle.history.specs.History.{table_call, table_run, table_replies}
use Rattle.history.proofs.FromFile.{from-file}
use Rattle.history_replay.specs.Replay.{call_of}
use Rattle.session_apart.specs.declared.Rest.{Rest}
use Rattle.session_apart.specs.Apart.{table_with}
use Rattle.delivery_calls.specs.declared.MadeApart.{MadeApart}
use Rattle.delivery_calls.specs.CallsApart.{CallMade}
use Rattle.delivery_calls.proofs.RefusedCalls.{tenth-same}
use Rattle.delivery_notices.specs.Notices.{Notice}
use Rattle.delivery_notices.specs.NoticeLists.{notice_at, notices_to}
use Rattle.delivery_tables.specs.Tables.{is_measure, concerns, calls_for, no_call, noticed, refusals_for, only_for, Claimed, NoticesMade, Delivers}

-- ---- one notice

-- a call is a measure exactly where its kind is 3
pub measure-is : (kind first second third : ℕ) → is_measure (call_of kind first second third) ≡ eqb kind 3
measure-is kind first second third = go (eqb kind 0) refl (eqb kind 2) refl (eqb kind 3) refl (eqb kind 1) refl
  where
    go : (a : Bool) → eqb kind 0 ≡ a → (b : Bool) → eqb kind 2 ≡ b → (c : Bool) → eqb kind 3 ≡ c → (d : Bool) → eqb kind 1 ≡ d
        → is_measure (call_of kind first second third) ≡ eqb kind 3
    go true p b q c r d s = let z : kind ≡ 0 = eqb-true kind 0 p in rw z
    go false p true q c r d s = let z : kind ≡ 2 = eqb-true kind 2 q in rw z
    go false p false q true r d s = rw (p, q, r)
    go false p false q false r true s = rw (p, q, r, s)
    go false p false q false r false s = rw (p, q, r, s)

-- a notice at a place concerns a product if it is no measure or the measure's id is the product's
pub concerns-is : (calls ids id : List ℕ) (i kind : ℕ) (of : List ℕ) (b : Bool) → kind ≡ get_or calls (5 * i + 1) 0
    → of ≡ get_or ids (4 * i) 0 ∷ get_or ids (4 * i + 1) 0 ∷ get_or ids (4 * i + 2) 0 ∷ get_or ids (4 * i + 3) 0 ∷ [] → b ≡ (not (eqb kind 3) || same_id of id)
    → b ≡ concerns id (notice_at calls ids i)
unfolding concerns
concerns-is calls ids id i kind of b k e q =
    q ∙ rw (k, e, measure-is (get_or calls (5 * i + 1) 0) (get_or calls (5 * i + 2) 0) (get_or calls (5 * i + 3) 0) (get_or calls (5 * i + 4) 0))

-- a notice that is no call of the product, and one that is
pub noticed-not : (id : List ℕ) (t : Table) (n : Notice) → concerns id n ≡ false → no_call t ≡ noticed id t n
unfolding noticed
noticed-not id t n e = rw e

-- a notice that concerns a product is made as a call on its table
pub noticed-call : (id : List ℕ) (t : Table) (n : Notice) → concerns id n ≡ true → table_call t n.call ≡ noticed id t n
unfolding noticed
noticed-call id t n e = rw e refl

-- the same apart from the maps: a notice that is no call of the product leaves the rest and the maps
pub made-not : (id : List ℕ) (rest : Rest) (closed exchange : List ℕ) (n : Notice) → concerns id n ≡ false
    → CallMade (noticed id (table_with rest closed exchange) n) (record { refusal = 0; rest = rest }) closed exchange
made-not id rest closed exchange n e = rw (← noticed-not id (table_with rest closed exchange) n e) (record { refusal = refl; table = refl })

-- question 10 after a notice
noticed-tenth : (id : List ℕ) (t : Table) (n : Notice) → sound (noticed id t n).table ≡ sound t
unfolding noticed
noticed-tenth id t n = go (concerns id n) refl
  where
    go : (b : Bool) → concerns id n ≡ b → sound (cond (concerns id n) (table_call t n.call) (no_call t)).table ≡ sound t
    go true e = rw e (tenth-same t n.call)
    go false e = rw e refl

-- ---- lists of notices

-- the first notice of a list, and the calls of the product
pub run-first : (id : List ℕ) (t : Table) (n : Notice) (ns : List Notice)
    → table_run t (calls_for id (n ∷ ns)) ≡ table_run (noticed id t n).table (calls_for id ns)
unfolding noticed calls_for table_run
run-first id t n ns = go (concerns id n) refl
  where
    go : (b : Bool) → concerns id n ≡ b → table_run t (cond (concerns id n) (n.call ∷ calls_for id ns) (calls_for id ns))
        ≡ table_run (cond (concerns id n) (table_call t n.call) (no_call t)).table (calls_for id ns)
    go true e = rw e
    go false e = rw e

run_none : (id : List ℕ) (t : Table) → table_run t (calls_for id []) ≡ t
unfolding calls_for table_run
run_none id t = refl

-- notices in two lists one after the other
pub run-append : (id : List ℕ) (t : Table) (ns ms : List Notice) → table_run t (calls_for id (ns ++ ms)) ≡ table_run (table_run t (calls_for id ns)) (calls_for id ms)
run-append id t [] ms = rw (run_none id t) refl
run-append id t (n ∷ ns) ms =
    run-first id t n (ns ++ ms) ∙ run-append id (noticed id t n).table ns ms ∙ ap (λ (x : Table). table_run x (calls_for id ms)) (sym (run-first id t n ns))

refusals-none : (id : List ℕ) (t : Table) → refusals_for id t [] ≡ []
unfolding refusals_for
refusals-none id t = refl

refusals-first : (id : List ℕ) (t : Table) (n : Notice) (ns : List Notice)
    → refusals_for id t (n ∷ ns) ≡ (noticed id t n).refusal ∷ refusals_for id (noticed id t n).table ns
unfolding refusals_for
refusals-first id t n ns = refl

-- the refusals of two lists of notices are those of the first, then those of the second on the table after the first
pub refusals-append : (id : List ℕ) (t : Table) (ns ms : List Notice)
    → refusals_for id t (ns ++ ms) ≡ refusals_for id t ns ++ refusals_for id (table_run t (calls_for id ns)) ms
refusals-append id t [] ms = rw (refusals-none id t, run_none id t) refl
refusals-append id t (n ∷ ns) ms =
    rw (refusals-first id t n (ns ++ ms), refusals-first id t n ns, refusals-append id (noticed id t n).table ns ms, run-first id t n ns) refl

-- one notice more
pub run_more : (id : List ℕ) (t : Table) (ns : List Notice) (n : Notice)
    → table_run t (calls_for id (ns ++ (n ∷ []))) ≡ (noticed id (table_run t (calls_for id ns)) n).table
run_more id t ns n = run-append id t ns (n ∷ []) ∙ run-first id (table_run t (calls_for id ns)) n [] ∙
    run_none id (noticed id (table_run t (calls_for id ns)) n).table

refusals-more : (id : List ℕ) (t : Table) (ns : List Notice) (n : Notice)
    → refusals_for id t (ns ++ (n ∷ [])) ≡ refusals_for id t ns ++ ((noticed id (table_run t (calls_for id ns)) n).refusal ∷ [])
refusals-more id t ns n =
    refusals-append id t ns (n ∷ [])
    ∙ rw (refusals-first id (table_run t (calls_for id ns)) n [], refusals-none id (noticed id (table_run t (calls_for id ns)) n).table) refl

-- the refusals of the notices that are calls of the product are those of the list of demand 3
only-replies : (id : List ℕ) (t : Table) (ns : List Notice)
    → only_for id ns (refusals_for id t ns) ≡ map (λ (x : Reply). x.refusal) (table_replies t (calls_for id ns))
unfolding only_for refusals_for calls_for table_replies noticed
only-replies id t [] = refl
only-replies id t (n ∷ ns) = go (concerns id n) refl (only-replies id (table_call t n.call).table ns) (only-replies id t ns)
  where
    go : (b : Bool) → concerns id n ≡ b
        → only_for id ns (refusals_for id (table_call t n.call).table ns)
        ≡ map (λ (x : Reply). x.refusal) (table_replies (table_call t n.call).table (calls_for id ns))
        → only_for id ns (refusals_for id t ns) ≡ map (λ (x : Reply). x.refusal) (table_replies t (calls_for id ns))
        → cond (concerns id n) ((cond (concerns id n) (table_call t n.call) (no_call t)).refusal
        ∷ only_for id ns (refusals_for id (cond (concerns id n) (table_call t n.call) (no_call t)).table ns))
        (only_for id ns (refusals_for id (cond (concerns id n) (table_call t n.call) (no_call t)).table ns))
        ≡ map (λ (x : Reply). x.refusal) (table_replies t (cond (concerns id n) (n.call ∷ calls_for id ns) (calls_for id ns)))
    go true e with_call without = rw e (ap (λ (l : List ℕ). (table_call t n.call).refusal ∷ l) with_call)
    go false e with_call without = rw e without

-- demand 3 with the notices as its list
pub claimed : (f id : List ℕ) (date : ℕ) (ns : List Notice) → Claimed f id date ns
claimed f id date ns =
    record { replies = only-replies id (open_call f id date).table ns; history = λ z more. from-file f id date z (calls_for id ns) more }

-- ---- the loop

notices-length : (calls ids : List ℕ) (n : ℕ) → length (notices_to calls ids n) ≡ n
unfolding notices_to
notices-length calls ids zero = refl
notices-length calls ids (suc n) = length-append (notices_to calls ids n) (notice_at calls ids n ∷ []) ∙ omega (arith, notices-length calls ids n)

notices-more : (calls ids : List ℕ) (n : ℕ) → notices_to calls ids (n + 1) ≡ notices_to calls ids n ++ (notice_at calls ids n ∷ [])
unfolding notices_to
notices-more calls ids n = rw (add-one n) refl

nothing-to : (calls ids : List ℕ) → notices_to calls ids 0 ≡ []
unfolding notices_to
nothing-to calls ids = refl

drop-one : (l : List ℕ) (k : ℕ) → drop (suc k) l ≡ drop 1 (drop k l)
drop-one l k = sym (drop-drop 1 k l ∙ rw (add-one k) refl)

-- question 10 stays as it was
pub tenth-turns : (id : List ℕ) (t : Table) (n : Notice) (o : MadeApart) (closed exchange : List ℕ) (ten : Bool) → ten ≡ sound t
    → CallMade (noticed id t n) o closed exchange
    → ten ≡ sound (table_with o.rest closed exchange)
tenth-turns id t n o closed exchange ten w e = w ∙ sym (noticed-tenth id t n) ∙ sym (ap sound e.table)

-- after the first i notices
pub record Taking (id calls ids before : List ℕ) (start : Table) (buffer : List ℕ) (t : Table) (i : ℕ) : Type 0 where
  -- the table is the one after the calls of the notices so far
  pub table : t ≡ table_run start (calls_for id (notices_to calls ids i))
  -- the buffer begins with the refusals of the notices so far
  pub refusals : take i buffer ≡ refusals_for id start (notices_to calls ids i)
  -- the buffer after those refusals is as before
  pub unchanged : drop i buffer ≡ drop i before
  -- the buffer keeps its length
  pub long : length buffer ≡ length before

module _ (id calls ids before : List ℕ) (start : Table) where
  -- the state before the first notice
  pub begins : Taking id calls ids before start before start 0
  begins =
      record {
        table = rw (nothing-to calls ids) (sym (run_none id start));
        refusals = rw (nothing-to calls ids) (sym (refusals-none id start));
        unchanged = refl;
        long = refl;
      }

  -- the state after one more notice, its refusal stored in its place
  pub turns : (buffer after : List ℕ) (t : Table) (i : ℕ) (o : MadeApart) (closed exchange : List ℕ) → Taking id calls ids before start buffer t i
      → i < length before
      → CallMade (noticed id t (notice_at calls ids i)) o closed exchange → after ≡ set buffer i o.refusal
      → Taking id calls ids before start after (table_with o.rest closed exchange) (i + 1)
  turns buffer after t i o closed exchange s h e q =
      record {
        table =
            rw (notices-more calls ids i, run_more id start (notices_to calls ids i) (notice_at calls ids i), ← s.table) e.table;
        refusals =
            rw (
              notices-more calls ids i,
              refusals-more id start (notices_to calls ids i) (notice_at calls ids i),
              add-one i,
              q,
              take-suc-set buffer i o.refusal (omega (arith, s.long)),
              s.refusals,
              ← s.table,
            )
            (ap (λ (x : ℕ). refusals_for id start (notices_to calls ids i) ++ (x ∷ [])) e.refusal);
        unchanged = rw (q, add-one i, drop-set-lt (suc i) buffer i o.refusal (omega arith)) (later buffer before i s.unchanged);
        long = ap length q ∙ simp length-set s.long;
      }
    where
      later : (a b : List ℕ) (k : ℕ) → drop k a ≡ drop k b → drop (suc k) a ≡ drop (suc k) b
      later a b k z = drop-one a k ∙ ap (drop 1) z ∙ sym (drop-one b k)

  -- after the last notice the table and the buffer are those of all notices
  pub ends : (buffer : List ℕ) (t : Table) (i count : ℕ) → Taking id calls ids before start buffer t i → i ≡ count
      → NoticesMade start id (notices_to calls ids count) before buffer t
  ends buffer t i count s e =
      record {
        table = rw (← e) s.table;
        refusals = rw (notices-length calls ids count, ← e) s.refusals;
        unchanged = rw (notices-length calls ids count, ← e) s.unchanged;
        long = s.long;
      }

module _ (opening : List ℕ → ℕ → Outcome) (id calls ids : List ℕ) (date count : ℕ) (before : List ℕ) (o : Outcome) (is : o ≡ opening id date) where
  -- no room: no notice is taken
  pub not_made : length before < count → Delivers opening id date (notices_to calls ids count) before before
      (record { fits = false; refusal = o.refusal; table = o.table })
  not_made h =
      record {
        fits = rw (notices-length calls ids count) (sym (lt-leb count (length before) h));
        refusal = ap (λ (x : Outcome). x.refusal) is;
        made = λ t. clash t refl;
        idle = λ t. (ap (λ (x : Outcome). x.table) is, refl);
        long = refl;
      }

  -- with room for every refusal, all notices are made on the opened table
  pub all_made : (after : List ℕ) (t : Table) → count ≤ length before → NoticesMade o.table id (notices_to calls ids count) before after t
      → Delivers opening id date (notices_to calls ids count) before after (record { fits = true; refusal = o.refusal; table = t })
  all_made after t h m =
      record {
        fits = rw (notices-length calls ids count) (sym (le-leb count (length before) h));
        refusal = ap (λ (x : Outcome). x.refusal) is;
        made = λ z. rw (← ap (λ (x : Outcome). x.table) is) m;
        idle = λ z. clash refl z;
        long = m.long;
      }
