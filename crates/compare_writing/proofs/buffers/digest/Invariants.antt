-- The loop keeps: the sum is below 4,294,967,291, so 257 times it and a byte more fit 64 bits.
use Prim.Native.Nat.{◌<◌}
use Rattle.compare_writing.proofs.buffers.digest.Given as goal

abbrev pub invariant-loop-byte : goal.invariant-loop-byte
invariant-loop-byte l = l.sum < 4294967291
