-- At the end of the text nothing is left; else a line is read up to its line feed or to the end, and taken as the library takes it.
use Rattle.c_differences.proofs.NextRow.{text-ended, none_left, line_taken}
use Rattle.c_differences.proofs.receive.Goals as goal

pub returns-then-text-from : goal.returns-then-text-from
returns-then-text-from c =
    text-ended _ _ _ _ _ c.line_start-from.ensures c.if-text-from.true _
    c.receiving_of-state.ensures _ c.receipt_from.ensures

pub returns-then-end-line : goal.returns-then-end-line
returns-then-end-line c =
    let fed = rw c.empty_long_line.ensures at c.line_from-end.ensures in
    none_left _ _ _ _ _ c.line_start-from.ensures c.if-text-from.false _ fed _ c.receiving_of-state.ensures _
    c.place_after-next.ensures c.if-end-line.true _ c.receipt_from-then-end-line.ensures

pub returns : goal.returns
returns c =
    let fed = rw c.empty_long_line.ensures at c.line_from-end.ensures in
    line_taken _ _ _ _ _ c.line_start-from.ensures c.if-text-from.false _ fed _ c.receiving_of-state.ensures _
    c.place_after-next.ensures c.if-end-line.false _ _ c.receive_line-after.ensures _ c.receipt_from-2.ensures
