-- The lines that are left, with what is known, print what all lines print; each line takes bytes, so the numbers fit the list.
use mathlib.Core.Path.{refl}
use native.Mathlib.Omega.{arith}
use Rattle.confirm_inputs.proofs.VerdictTexts.{said}
use Rattle.confirm_inputs.proofs.InputLines.{begins, room, all_read, count-few, ends-bad, ends-refused, goes_on}
use Rattle.confirm_inputs.proofs.read_lines.Goals as goal

pub loop-from-init : goal.loop-from-init
loop-from-init c = begins _ _ _ _ _ c.no_listing-s.ensures

pub overflow_add-cut : goal.overflow_add-cut
overflow_add-cut c =
    omega (arith, (c.byte_from-end.ensures.0 (omega (arith, c.loop-from-test.true))).within, c.requires.0)

pub overflow_add-number : goal.overflow_add-number
overflow_add-number c =
    omega (arith, c.loop-from.invariant.lines, c.loop-from-test.true, c.requires.0)

pub slice_bounds-read_listing_line-count : goal.slice_bounds-read_listing_line-count
slice_bounds-read_listing_line-count c = (c.byte_from-end.ensures.0 (omega (arith, c.loop-from-test.true))).on

pub slice_bounds-read_listing_line-start : goal.slice_bounds-read_listing_line-start
slice_bounds-read_listing_line-start c = (c.byte_from-end.ensures.0 (omega (arith, c.loop-from-test.true))).on

pub slice_bounds-read_listing_line-end : goal.slice_bounds-read_listing_line-end
slice_bounds-read_listing_line-end c = (c.byte_from-end.ensures.0 (omega (arith, c.loop-from-test.true))).within

pub shape_of-list-then-s-cut : goal.shape_of-list-then-s-cut
shape_of-list-then-s-cut c = c.loop-from.invariant.long-list

pub returns-then-s-cut : goal.returns-then-s-cut
returns-then-s-cut c =
    let end = c.byte_from-end.ensures.0 (omega (arith, c.loop-from-test.true)) in
    said c.bad_input_line.ensures
    (ends-bad _ _ _ _ _ _ _ _ _ c.loop-from.invariant c.loop-from-test.true _ end _ refl _ c.read_listing_line-s.ensures
    c.if-s-cut.true)

pub shape_of-list-then-s-ne0 : goal.shape_of-list-then-s-ne0
shape_of-list-then-s-ne0 c = c.loop-from.invariant.long-list

pub returns-then-s-ne0 : goal.returns-then-s-ne0
returns-then-s-ne0 c =
    let end = c.byte_from-end.ensures.0 (omega (arith, c.loop-from-test.true)) in
    said c.refused_line.ensures
    (ends-refused _ _ _ _ _ _ _ _ _ c.loop-from.invariant c.loop-from-test.true _ end _ refl _ c.read_listing_line-s.ensures
    c.if-s-cut.false c.if-s-ne0.true)

pub put_entry-count-requires : goal.put_entry-count-requires
put_entry-count-requires c =
    let pre = c.requires in
    room _ _ _ _ _ _ _ _ _ c.loop-from.invariant c.loop-from-test.true pre.0 pre.1

pub overflow_add-from : goal.overflow_add-from
overflow_add-from c =
    omega (arith, (c.byte_from-end.ensures.0 (omega (arith, c.loop-from-test.true))).within, c.requires.0)

pub loop-from-smaller : goal.loop-from-smaller
loop-from-smaller c =
    omega (arith, (c.byte_from-end.ensures.0 (omega (arith, c.loop-from-test.true))).on, c.loop-from-test.true)

pub loop-from-preserved : goal.loop-from-preserved
loop-from-preserved c =
    let end = c.byte_from-end.ensures.0 (omega (arith, c.loop-from-test.true)) in
    goes_on _ _ _ _ _ _ _ _ _ c.loop-from.invariant c.loop-from-test.true _ end _ refl _ c.read_listing_line-s.ensures
    c.if-s-cut.false c.if-s-ne0.false _ _ c.put_entry-count.ensures

pub end_line-requires : goal.end_line-requires
end_line-requires c =
    let pre = c.requires in
    count-few _ _ _ _ _ _ _ _ _ c.loop-from.invariant pre.0 pre.1

pub shape_of-list : goal.shape_of-list
shape_of-list c = c.loop-from.invariant.long-list

pub returns : goal.returns
returns c =
    said c.end_line.ensures (all_read _ _ _ _ _ _ _ _ _ c.loop-from.invariant c.loop-from-test.false)
