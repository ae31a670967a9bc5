-- 0 just where the bytes are zero. The loop keeps it of the bytes before the index; a turn adds one byte by `zeros-more`.
use native.Mathlib.Nat.{zero-add}
use Rattle.file_blocks.proofs.Zeros.{zeros-none, zeros-more}
use Rattle.file_blocks.proofs.bits_of.Goals as goal

pub loop-byte-init : goal.loop-byte-init
loop-byte-init c = zeros-none _ _

pub loop-byte-preserved : goal.loop-byte-preserved
loop-byte-preserved c = let l = c.loop-byte in rw (zero-add l.byte-index) at (zeros-more c.args.bytes.now 0 l.byte-index l.bits l.invariant)
