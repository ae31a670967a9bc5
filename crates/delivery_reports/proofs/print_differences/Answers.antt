-- The lines of the keys that differ, from a key on, stand at the buffer's start as long as there is room, and the answer says what is left.
-- The loop keeps (`Printing`): the first `length` bytes and the lines from `next` on are all lines from `from` on, `lines` counts those written,
-- the buffer is unchanged past `length`, and `next` is a key that differs or 65,536. Each round moves `next` on, so it ends.
use native.Mathlib.Omega.{arith}
use Rattle.delivery_reports.proofs.ReportLines.{begins, goes, ends, has_more, line-fits, next-on}
use Rattle.delivery_reports.proofs.print_differences.Goals as goal

pub loop-kind-init : goal.loop-kind-init
loop-kind-init c = begins _ _ c.well_formed.1.0.1.0.1 _ _ _ _ _ c.next_difference-next.ensures

pub overflow_cast-next : goal.overflow_cast-next
overflow_cast-next c =
    let h = has_more _ _ _ c.goes_on.ensures c.loop-kind-test.true in
    omega (arith, h.0)

pub overflow_add-lines : goal.overflow_add-lines
overflow_add-lines c =
    let h = has_more _ _ _ c.goes_on.ensures c.loop-kind-test.true in
    let v = c.loop-kind.invariant.few in
    omega (arith, h.0, v)

pub overflow_add-next : goal.overflow_add-next
overflow_add-next c =
    let h = has_more _ _ _ c.goes_on.ensures c.loop-kind-test.true in
    omega (arith, h.0)

-- ---- the next round
pub loop-kind-smaller : goal.loop-kind-smaller
loop-kind-smaller c =
    let h = has_more _ _ _ c.goes_on.ensures
    c.loop-kind-test.true in
    let u = next-on _ _ _ _ c.next_difference-next-in-loop-kind.ensures (omega (arith, h.0)) in
    omega (arith, h.0, u)

pub loop-kind-preserved : goal.loop-kind-preserved
loop-kind-preserved c =
    let put = c.append-length.ensures.put (
      line-fits _ _ _ _ c.well_formed.1.0.1.0.1 _ c.key_line-line.ensures,
      (has_more _ _ _ c.goes_on.ensures c.loop-kind-test.true).1,
    ) in
    goes _ _
    c.well_formed.1.0.1.0.1 _ _ _ _ _ _ _ _ c.loop-kind.invariant
    c.goes_on.ensures c.loop-kind-test.true _
    c.key_line-line.ensures _ _ put.0 put.1 _ c.next_difference-next-in-loop-kind.ensures

-- ---- the end
pub shape_of-out : goal.shape_of-out
shape_of-out c = c.loop-kind.invariant.long

pub returns : goal.returns
returns c = ends _ _ c.well_formed.1.0.1.0.1 _ _ _ _ _ _ _ _
    c.loop-kind.invariant c.goes_on.ensures c.loop-kind-test.false
