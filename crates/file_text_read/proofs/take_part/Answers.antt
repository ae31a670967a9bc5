-- The lines that end in a part of the list, and the line begun after them.
-- The loop keeps `Going`: what t, l, the buffer and the bytes that are left say is what the whole part says, whatever follows; the records only grow.
-- A byte that is no line feed lengthens the line (goes-byte), a line feed takes it (goes-line); at the end no byte is left (ends).
use Rattle.file_text_read.proofs.ListLines.{begins, goes-byte, goes-line, ends}
use Rattle.file_text_read.proofs.take_part.Goals as goal

pub loop-byte-init : goal.loop-byte-init
loop-byte-init c = begins _ _ _ _

-- ---- a byte of a line
pub loop-byte-preserved-then-byte-ne10 : goal.loop-byte-preserved-then-byte-ne10
loop-byte-preserved-then-byte-ne10 c =
    goes-byte _ _ _ _ _ _ _ _ c.loop-byte.invariant c.loop-byte-test.true c.if-byte-ne10.true _ c.extend_long-l.ensures

-- ---- a line feed
pub loop-byte-preserved : goal.loop-byte-preserved
loop-byte-preserved c =
    goes-line _ _ _ _ _ _ _ _ c.loop-byte.invariant c.loop-byte-test.true c.if-byte-ne10.false _ _ c.take_line-t.ensures _
    c.empty_long_line-l.ensures

-- ---- after the last byte
pub shape_of-records : goal.shape_of-records
shape_of-records c = c.loop-byte.invariant.grown.long

pub returns : goal.returns
returns c = ends _ _ _ _ _ _ _ _ c.loop-byte.invariant c.loop-byte-test.false
