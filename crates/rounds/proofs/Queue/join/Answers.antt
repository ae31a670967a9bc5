-- Shown: the answer is the definition's joining. A question answered yes leaves those after it (`yes-10`, `yes-30`), and a refusal is
-- the first no among those left: the table is queued already (`one-any`). If it is not, the queue has fewer
-- than 200 tables, since its numbers are distinct and below 200 (`join-room`), and the table is put at the end.
use Rattle.rounds.specs.declared.Queue.{Queue}
use Rattle.rounds.specs.Rounds.{queued, queue_right, table_number_right, join_asks, join_call}
use Rattle.rounds.proofs.Queues.{right-count}
use Rattle.rounds.proofs.QueuePlaces.{one-any}
use Rattle.rounds.proofs.QueueQuestions.{change-no, change-yes, join-room}
use Rattle.questions.specs.Search.{one_of}
use Rattle.std.specs.List.{list_any}
use lib.Dec.{eqb}
use lib.Seq.{length-take-le}
use Rattle.questions.specs.Questions.{first_no}
use Rattle.questions.proofs.Asks.{no-asks, first-yes}
use Rattle.questions.proofs.Bools.{said-no, said-yes}
use borrow.Author.Tests.{le-leb, lt-leb}
use native.Mathlib.Omega.{arith}
use Prim.Native.Nat.{ℕ, ◌≤◌}
use mathlib.Core.Path.{◌≡◌, refl, sym, ◌∙◌, ap}
use mathlib.Core.Bool.{Bool, true, false, not}
use lib.ListN.{length, drop}
use Rattle.rounds.proofs.Queue.join.Goals as goal

-- ---- the yeses: where the first questions are answered yes, the refusal is that of the others
module _ (q : Queue) (table : ℕ) (right : queue_right q ≡ true) where
  yes-10 : first_no (join_asks q table) ≡ first_no (drop 1 (join_asks q table))
  yes-10 = first-yes 10 _ right

  yes-30 : table_number_right table ≡ true → first_no (join_asks q table) ≡ first_no (drop 2 (join_asks q table))
  yes-30 small = yes-10 ∙ first-yes 30 _ small

  -- a right queue has no more numbers than places
  fits : length q.tables ≡ 200 → q.count ≤ length q.tables
  fits l = omega (arith, l, right-count q right)

-- ---- the refusals
pub returns-then-not-is_right : goal.returns-then-not-is_right
unfolding join_call
returns-then-not-is_right c = change-no _ _ _ 9 _ refl (said-no c.is_right.ensures c.if-not-is_right.true)

pub returns-then-table-gt199 : goal.returns-then-table-gt199
unfolding join_call
returns-then-table-gt199 c =
    let r = said-yes c.is_right.ensures c.if-not-is_right.false in
    change-no _ _ _ 29 _ (yes-10 c.args.self c.args.table r) (lt-leb _ _ c.if-table-gt199.true)

-- ---- whether the table is queued
says : (q : Queue) (table : ℕ) (a b : Bool) → a ≡ list_any (λ y. eqb y table) (queued q) → a ≡ b → one_of (queued q) table ≡ b
says q table a b e f = sym (one-any table (queued q)) ∙ sym e ∙ f

pub slice_bounds-tables-end : goal.slice_bounds-tables-end
slice_bounds-tables-end c = fits c.args.self c.args.table (said-yes c.is_right.ensures c.if-not-is_right.false) c.well_formed.0.1.1.0.1.0.1

pub slice_bounds-contains-end : goal.slice_bounds-contains-end
slice_bounds-contains-end c =
    sym (length-take-le _ _ (fits c.args.self c.args.table (said-yes c.is_right.ensures c.if-not-is_right.false) c.well_formed.0.1.1.0.1.0.1))

pub returns-then-contains : goal.returns-then-contains
unfolding join_call
returns-then-contains c =
    let q = c.args.self in
    let table = c.args.table in
    let r = said-yes c.is_right.ensures c.if-not-is_right.false in
    let there = says q table _ true c.contains.ensures.value c.if-contains.true in
    change-no _ _ _ 30 _ (yes-30 q table r (le-leb _ _ c.if-table-gt199.false)) (ap not there)

-- ---- there is room, and the table joins
pub with_last-requires : goal.with_last-requires
with_last-requires c =
    let q = c.args.self in
    let table = c.args.table in
    let r = said-yes c.is_right.ensures c.if-not-is_right.false in
    let f = fits q table r c.well_formed.0.1.1.0.1.0.1 in
    join-room q table f r (le-leb _ _ c.if-table-gt199.false) (says q table _ false c.contains.ensures.value c.if-contains.false)

pub returns : goal.returns
unfolding join_call
returns c =
    let q = c.args.self in
    let table = c.args.table in
    let r = said-yes c.is_right.ensures c.if-not-is_right.false in
    let out = says q table _ false c.contains.ensures.value c.if-contains.false in
    rw c.with_last.ensures (change-yes _ _ _ (yes-30 q table r (le-leb _ _ c.if-table-gt199.false) ∙ first-yes 31 _ (ap not out) ∙ no-asks))
