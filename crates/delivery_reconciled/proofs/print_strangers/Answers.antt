-- One row after the other, as long as there is one and room for its line.
use native.Mathlib.Omega.{arith}
use Rattle.delivery_inputs.proofs.ShortLines.{line-fits}
use Rattle.delivery_reconciled.proofs.Strangers.{begins, goes, ends, has_more, row-short}
use Rattle.delivery_reconciled.proofs.print_strangers.Goals as goal

pub loop-line-init : goal.loop-line-init
loop-line-init c = begins _ _ _ _ _

pub overflow_add-lines : goal.overflow_add-lines
overflow_add-lines c =
    let h = has_more _ _ _ _ c.goes_on.ensures
    c.loop-line-test.true in
    let v = c.loop-line.invariant.few in
    omega (arith, h.0, v, c.line_count-lines.ensures.1)

pub overflow_add-next : goal.overflow_add-next
overflow_add-next c =
    let h = has_more _ _ _ _ c.goes_on.ensures
    c.loop-line-test.true in
    omega (arith, h.0)

pub loop-line-smaller : goal.loop-line-smaller
loop-line-smaller c =
    let h = has_more _ _ _ _ c.goes_on.ensures
    c.loop-line-test.true in
    omega (arith, h.0)

pub loop-line-preserved : goal.loop-line-preserved
loop-line-preserved c =
    let put = c.append-length.ensures.put (
      line-fits _ (row-short _ _ _) _ c.id_row_line-line.ensures,
      (has_more _ _ _ _ c.goes_on.ensures c.loop-line-test.true).1,
    ) in
    goes _ _ _ _ _ _ _ _ _ c.loop-line.invariant
    c.goes_on.ensures c.loop-line-test.true _
    c.id_row_line-line.ensures _ _
    put.0 put.1 _ c.line_count-lines.ensures.0

pub shape_of-out : goal.shape_of-out
shape_of-out c = c.loop-line.invariant.long

pub returns : goal.returns
returns c = ends _ _ _ _ _ _ _ _ _ c.loop-line.invariant c.goes_on.ensures c.loop-line-test.false
