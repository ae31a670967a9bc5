-- A line after a bad one is not taken, one that says nothing counts, any other is taken by its entry.
use Rattle.file_text_read.proofs.ListLines.{taken-after-bad, taken-nothing, taken-entry}
use Rattle.file_text_read.proofs.take_line.Goals as goal

pub returns-then-taken-ne0 : goal.returns-then-taken-ne0
returns-then-taken-ne0 c = taken-after-bad c.args.taken c.args.line _ c.if-taken-ne0.true

pub returns-then-e-eq35 : goal.returns-then-e-eq35
returns-then-e-eq35 c =
    taken-nothing c.args.taken c.args.line _ c.if-taken-ne0.false _ c.held_entry-e.ensures c.if-e-eq35.true _
    c.count_line.ensures

pub returns : goal.returns
returns c =
    taken-entry c.args.taken c.args.line _ c.if-taken-ne0.false _ c.held_entry-e.ensures c.if-e-eq35.false _ _
    c.take_entry.ensures
