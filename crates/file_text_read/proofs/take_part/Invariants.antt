-- The loop keeps `Going`: what t, l, the buffer and the bytes that are left say is what the whole part says, whatever follows; the records only grow. A
-- byte that is no line feed lengthens the line (goes-byte), a line feed takes it (goes-line); at the end no byte is left (ends).
use Rattle.file_text_read.proofs.ListLines.{Going}
use Rattle.file_text_read.proofs.take_part.Given as goal

-- ---- what the loop keeps
abbrev pub invariant-loop-byte : goal.invariant-loop-byte
invariant-loop-byte l = Going l.initial.t l.initial.l l.part l.initial.records l.t l.l l.records l.byte-index
