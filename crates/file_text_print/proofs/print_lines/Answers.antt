-- The lines of the text from one on, in a lent buffer, as long as it has room for another line of 64 bytes.
-- The loop keeps `Printing`: the lines before `from` and the buffer's first `length` bytes are all lines before `next`, and the rest is as it was.
-- A yes of `goes_on` gives room for the line, which has at most 64 bytes (line-fits); its no ends the text or the room (ends).
use native.Mathlib.Omega.{arith}
use Prim.Native.Nat.{◌<◌}
use Rattle.file_text_print.proofs.PrintedLines.{begins, goes, ends, has_more, line-fits}
use borrow.Author.Rules.{rules}
use Rattle.file_text_print.proofs.print_lines.Goals as goal

pub loop-cal-init : goal.loop-cal-init
loop-cal-init c = begins _ _ _ _

pub overflow_add-next : goal.overflow_add-next
overflow_add-next c =
    let h : c.loop-cal.next < c.line_count-count.result =
    (has_more _ _ _ _ c.goes_on.ensures c.loop-cal-test.true).0 in
    search rules

pub loop-cal-smaller : goal.loop-cal-smaller
loop-cal-smaller c =
    let h : c.loop-cal.next < c.line_count-count.result =
    (has_more _ _ _ _ c.goes_on.ensures c.loop-cal-test.true).0 in
    omega (arith, h)

-- ---- no line more, or no room
pub shape_of-out : goal.shape_of-out
shape_of-out c = c.loop-cal.invariant.long

pub returns : goal.returns
returns c = ends _ _ _ _ _ _ _ c.loop-cal.invariant _ c.line_count-count.ensures c.goes_on.ensures
    c.loop-cal-test.false

-- ---- one line more, for which there is room
pub loop-cal-preserved : goal.loop-cal-preserved
loop-cal-preserved c =
    let put = c.append-length.ensures.put (line-fits _ _ _ _ c.line_at.ensures, (has_more _ _ _ _ c.goes_on.ensures c.loop-cal-test.true).1) in
    goes _ _ _ _ _ _ _ c.loop-cal.invariant _ c.line_count-count.ensures c.goes_on.ensures c.loop-cal-test.true _
    c.line_at.ensures _ _ put.0 put.1
