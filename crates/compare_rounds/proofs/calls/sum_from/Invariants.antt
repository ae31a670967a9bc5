-- `sum_from` is shown not to overflow. The loop keeps: the sum is at most 65,535 for each place before i.
use Prim.Native.Nat.{◌*◌, ◌≤◌}
use Rattle.compare_rounds.proofs.calls.sum_from.Given as goal

abbrev pub invariant-loop-i : goal.invariant-loop-i
invariant-loop-i l = l.sum ≤ 65535 * l.i
