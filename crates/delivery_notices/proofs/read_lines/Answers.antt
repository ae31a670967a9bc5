-- `read_lines` takes all lines of a text into the lists. The loop keeps: the text and the lists have their lengths, and the lines before `from`
-- are taken (`Going`), of which the room for the next follows. A turn takes one line more (`goes_on`); at the end all are taken (`all_lines`).
use mathlib.Core.Path.{refl}
use native.Mathlib.Omega.{arith}
use Rattle.delivery_notices.proofs.NoticesSoFar.{begins, goes_on, all_lines}
use Rattle.delivery_notices.proofs.read_lines.Goals as goal

-- ---- before the loop
pub loop-from-init : goal.loop-from-init
loop-from-init c =
    (c.requires.0, c.requires.1, c.requires.2, begins _ _ _ _ _ c.no_notices_taken-t.ensures)

-- ---- a turn: the line, and the room for what it says
pub overflow_add-cut : goal.overflow_add-cut
overflow_add-cut c = omega (arith, (c.byte_from-end.ensures.0 (omega (arith, c.loop-from-test.true))).within, c.loop-from.invariant.0)

pub slice_bounds-take_line-count : goal.slice_bounds-take_line-count
slice_bounds-take_line-count c = (c.byte_from-end.ensures.0 (omega (arith, c.loop-from-test.true))).on

pub slice_bounds-take_line-start : goal.slice_bounds-take_line-start
slice_bounds-take_line-start c = (c.byte_from-end.ensures.0 (omega (arith, c.loop-from-test.true))).on

pub slice_bounds-take_line-end : goal.slice_bounds-take_line-end
slice_bounds-take_line-end c = (c.byte_from-end.ensures.0 (omega (arith, c.loop-from-test.true))).within

pub take_line-t-requires : goal.take_line-t-requires
take_line-t-requires c =
    let v = c.loop-from.invariant in
    let g = v.3 in
    let h = c.loop-from-test.true in (
      omega (arith, g.lines, h, v.0),
      omega (arith, g.few, h, v.0),
      omega (arith, g.few, h, v.0, v.1, g.calls-long),
      omega (arith, g.few, h, v.0, v.2, g.ids-long),
    )

pub overflow_add-from : goal.overflow_add-from
overflow_add-from c =
    omega (
      arith,
      (c.byte_from-end.ensures.0
          (omega (arith, c.loop-from-test.true))).within,
      c.loop-from.invariant.0,
    )

-- ---- the invariant after it
pub loop-from-smaller : goal.loop-from-smaller
loop-from-smaller c =
    omega (
      arith,
      (c.byte_from-end.ensures.0 (omega (arith, c.loop-from-test.true))).on,
      c.loop-from-test.true,
    )

pub loop-from-preserved : goal.loop-from-preserved
loop-from-preserved c =
    let v = c.loop-from.invariant in (
      v.0,
      v.1,
      v.2,
      goes_on _ _ _ _ _ _ _ _ _ v.3 c.loop-from-test.true
          (c.byte_from-end.ensures.0 (omega (arith, c.loop-from-test.true))) _ refl _ _ _
          c.take_line-t.ensures,
    )

-- ---- the end
pub shape_of-calls : goal.shape_of-calls
shape_of-calls c = c.loop-from.invariant.3.calls-long

pub shape_of-ids : goal.shape_of-ids
shape_of-ids c = c.loop-from.invariant.3.ids-long

pub returns : goal.returns
returns c = all_lines _ _ _ _ _ _ _ _ c.loop-from.invariant.3 c.loop-from-test.false c.loop-from.invariant.0
