-- Shown: the answer is the definition's leaving. A question answered yes leaves those after it (`yes-10`, `yes-30`), and a refusal is
-- the first no among those left: where `index_of` gives none, the table is not queued. A right queue has it once,
-- so the queue without that index is the queue without the table (`left_out`).
use Rattle.rounds.specs.declared.Queue.{Queue}
use Rattle.rounds.specs.Rounds.{queue_right, table_number_right, leave_asks, leave_call}
use Rattle.rounds.proofs.Queues.{right-count}
use Rattle.rounds.proofs.QueueQuestions.{change-no, change-yes, queued-there, not-queued, left_out}
use Rattle.questions.specs.Questions.{first_no}
use Rattle.questions.proofs.Asks.{no-asks, first-yes}
use Rattle.questions.proofs.Bools.{said-no, said-yes}
use borrow.Author.Tests.{le-leb, lt-leb}
use native.Mathlib.Omega.{arith}
use Prim.Native.Nat.{ℕ, ◌≤◌}
use mathlib.Core.Path.{◌≡◌, refl, ◌∙◌}
use mathlib.Core.Bool.{true}
use lib.ListN.{length, drop}
use Rattle.rounds.proofs.Queue.leave.Goals as goal

-- ---- the yeses: where the first questions are answered yes, the refusal is that of the others
module _ (q : Queue) (table : ℕ) (right : queue_right q ≡ true) where
  yes-10 : first_no (leave_asks q table) ≡ first_no (drop 1 (leave_asks q table))
  yes-10 = first-yes 10 _ right

  yes-30 : table_number_right table ≡ true → first_no (leave_asks q table) ≡ first_no (drop 2 (leave_asks q table))
  yes-30 small = yes-10 ∙ first-yes 30 _ small

  -- a right queue has no more numbers than places
  fits : length q.tables ≡ 200 → q.count ≤ length q.tables
  fits l = omega (arith, l, right-count q right)

-- ---- the refusals
pub returns-then-not-is_right : goal.returns-then-not-is_right
unfolding leave_call
returns-then-not-is_right c = change-no _ _ _ 9 _ refl (said-no c.is_right.ensures c.if-not-is_right.true)

pub returns-then-table-gt199 : goal.returns-then-table-gt199
unfolding leave_call
returns-then-table-gt199 c =
    let r = said-yes c.is_right.ensures c.if-not-is_right.false in
    change-no _ _ _ 29 _ (yes-10 c.args.self c.args.table r) (lt-leb _ _ c.if-table-gt199.true)

pub index_of-requires : goal.index_of-requires
index_of-requires c = right-count _ (said-yes c.is_right.ensures c.if-not-is_right.false)

pub returns-in-None : goal.returns-in-None
unfolding leave_call
returns-in-None c =
    let q = c.args.self in
    let table = c.args.table in
    let r = said-yes c.is_right.ensures c.if-not-is_right.false in
    let f = fits q table r c.well_formed.0.1.1.0.1.0.1 in
    change-no _ _ _ 30 _ (yes-30 q table r (le-leb _ _ c.if-table-gt199.false)) (not-queued q table f c.in-None.ensures)

-- ---- the table leaves
pub without_index-requires : goal.without_index-requires
without_index-requires c = (c.in-Some.ensures.0, right-count _ (said-yes c.is_right.ensures c.if-not-is_right.false))

pub returns-in-Some : goal.returns-in-Some
unfolding leave_call
returns-in-Some c =
    let q = c.args.self in
    let table = c.args.table in
    let r = said-yes c.is_right.ensures c.if-not-is_right.false in
    let f = fits q table r c.well_formed.0.1.1.0.1.0.1 in
    let e = c.in-Some.ensures in
    let h = rw e.1 at e.0 in
    rw (c.without_index.ensures, e.1, left_out q table f r h)
    (change-yes _ _ _ (yes-30 q table r (le-leb _ _ c.if-table-gt199.false) ∙ first-yes 31 _ (queued-there q table f h) ∙ no-asks))
