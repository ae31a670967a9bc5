-- The file of what a list says, in a lent buffer; nothing is written where a line is bad.
-- The first `return` is the bad list (composed-bad). The others are the answer of `write`, with the fault and the day of its refusal (composed-is).
-- The records are lent up to `records_size`, which lies within the buffer.
use mathlib.Core.Path.{refl, sym}
use native.Mathlib.Omega.{arith}
use lib.Seq.{length-take-le}
use Rattle.std.specs.Prelude.{Ok, Err}
use Rattle.file_text_faults.specs.Faults.{no_fault}
use Rattle.file_text_read.proofs.ListLines.{no-idle, fault-none, composed-bad, composed-is}
use Rattle.file_text_read.proofs.compose.Goals as goal

pub returns-then-taken-ne0 : goal.returns-then-taken-ne0
returns-then-taken-ne0 c =
    composed-bad c.args.taken c.args.records.now c.args.file.now c.if-taken-ne0.true _ c.bad_list.ensures

pub slice_bounds-write-end : goal.slice_bounds-write-end
slice_bounds-write-end c = sym (length-take-le _ _ c.records_size-n.ensures.0)

pub returns-in-Ok : goal.returns-in-Ok
returns-in-Ok c =
    rw c.written_list.ensures
    (composed-is c.args.taken c.args.records.now c.args.file.now c.if-taken-ne0.false c.records_size-n.result c.records_size-n.ensures.1
    (Ok c.in-Ok.length) _ c.in-Ok.ensures.0 c.in-Ok.ensures.1 no_fault (fault-none c.args.taken.faults) 0 (no-idle 0 c.args.taken.calendar (λ e. absurd (omega arith))))

pub returns-in-Err : goal.returns-in-Err
returns-in-Err c =
    rw (c.refused_list.ensures, c.number.ensures)
    (composed-is c.args.taken c.args.records.now c.args.file.now c.if-taken-ne0.false c.records_size-n.result c.records_size-n.ensures.1
    (Err c.in-Err.refusal) _ c.in-Err.ensures.0 c.in-Err.ensures.1 _ refl _ refl)
