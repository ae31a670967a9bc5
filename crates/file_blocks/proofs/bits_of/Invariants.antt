-- The loop keeps: `bits` is 0 just where the bytes before the index are zero.
use mathlib.Core.Path.{◌≡◌}
use lib.Dec.{eqb}
use Rattle.file_blocks.specs.Blocks.{zeros}
use Rattle.file_blocks.proofs.bits_of.Given as goal

abbrev pub invariant-loop-byte : goal.invariant-loop-byte
invariant-loop-byte l = eqb l.bits 0 ≡ zeros l.bytes 0 l.byte-index
