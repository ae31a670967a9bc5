-- The loop keeps: the sum is below 65,521, as `mix` requires and gives.
use Prim.Native.Nat.{◌<◌}
use Rattle.compare_tables.proofs.show.mix_bytes.Given as goal

abbrev pub invariant-loop-byte : goal.invariant-loop-byte
invariant-loop-byte l = l.mixed < 65521
