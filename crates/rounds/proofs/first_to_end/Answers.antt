-- Shown: the first b tables, or all if fewer, are taken in their order and stand at the end of the queue. The number taken,
-- k, is at most the count (`few-least`), so the three `put_after` stay within 200 places: the first k, the rest, and the
-- first k after the rest; together they are the definition's queue (`handled-is`).
use lib.ListN.{length}
use mathlib.Core.Path.{◌≡◌}
use Rattle.rounds.proofs.QueueQuestions.{placed, few-least, rest-length, handled-is}
use native.Mathlib.Omega.{arith}
use Prim.Native.Nat.{◌≤◌}
use Rattle.rounds.proofs.first_to_end.Goals as goal

-- ---- the three moves stay within the places
pub put_after-first-requires : goal.put_after-first-requires
put_after-first-requires c =
    let start = c in
    let l : length start.args.q.tables ≡ 200 = start.well_formed.0.1.1.0.1.0.1 in
    let m = few-least start.args.q.tables start.args.q.count (omega (arith, l)) _ _ c.min-few.ensures in
    (omega arith, omega (arith, m), omega (arith, m), c.no_tables-none.ensures)

pub put_after-rest-requires : goal.put_after-rest-requires
put_after-rest-requires c =
    let start = c in
    let l : length start.args.q.tables ≡ 200 = start.well_formed.0.1.1.0.1.0.1 in
    let m = few-least start.args.q.tables start.args.q.count (omega (arith, l)) _ _ c.min-few.ensures in
    (m, omega arith, omega (arith, m), c.no_tables-none.ensures)

pub overflow_sub-n : goal.overflow_sub-n
overflow_sub-n c =
    let start = c in
    let l : length start.args.q.tables ≡ 200 = start.well_formed.0.1.1.0.1.0.1 in
    few-least start.args.q.tables start.args.q.count (omega (arith, l)) _ _ c.min-few.ensures

pub put_after-all-requires : goal.put_after-all-requires
put_after-all-requires c =
    let start = c in
    let l : length start.args.q.tables ≡ 200 = start.well_formed.0.1.1.0.1.0.1 in
    let fits : start.args.q.count ≤ length start.args.q.tables = omega (arith, l) in
    let m = few-least start.args.q.tables start.args.q.count fits _ _ c.min-few.ensures in
    let r = rest-length start.args.q.tables start.args.q.count fits _ _ c.min-few.ensures in
    (omega arith, omega (arith, m), omega (arith, m), placed _ _ _ c.put_after-rest.ensures r)

-- ---- the answer
pub returns : goal.returns
returns c =
    let start = c in
    let l : length start.args.q.tables ≡ 200 = start.well_formed.0.1.1.0.1.0.1 in
    let fits : start.args.q.count ≤ length start.args.q.tables = omega (arith, l) in
    handled-is start.args.q.tables start.args.q.count fits _ _ c.min-few.ensures _ _ _
    c.put_after-first.ensures c.put_after-rest.ensures c.put_after-all.ensures
