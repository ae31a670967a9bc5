-- `map_sum` is shown not to overflow. The loop keeps: the bytes with 255 for each that is left are at most 187,680,
-- and the sum with 187,680 for each at most 138,132,480, which 32 bits hold. Each need is found by search.
use Prim.Native.Nat.{◌+◌, ◌*◌, ◌≤◌}
use Rattle.compare_tables.proofs.show.map_sum.Given as goal

abbrev pub invariant-loop-i : goal.invariant-loop-i
invariant-loop-i l = (l.bytes + 255 * l.i ≤ 187680) × (l.sum + 187680 * l.i ≤ 138132480)
