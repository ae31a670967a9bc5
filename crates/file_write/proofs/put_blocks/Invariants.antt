-- The loop keeps: the first k blocks stand in the buffer and the rest of it is as it was (`Put`). A block more is `put-more`.
use Rattle.file_write.proofs.Buffers.{Put}
use Rattle.file_write.proofs.put_blocks.Given as goal

-- ---- what the loop keeps
abbrev pub invariant-loop-k : goal.invariant-loop-k
invariant-loop-k l = Put l.cal l.records l.initial.buffer l.k l.buffer
