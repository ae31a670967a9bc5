-- The count has grown by the bytes that are done, so at the end by all of them; a write that takes nothing shuts the output.
use Rattle.std.proofs.Common.{length, ◌≡◌, ◌+◌, ◌-◌, ◌%◌, ◌^◌, ◌≤◌}
use Rattle.streams.proofs.output.write_next.Given as goal

abbrev pub invariant-loop-done : goal.invariant-loop-done
invariant-loop-done l = (l.done ≤ length l.bytes) × (l.so_far.open ≡ l.initial.so_far.open) × (l.so_far.bytes ≡ (l.initial.so_far.bytes + l.done) % 2 ^ 64)

abbrev pub decreases-loop-done : goal.decreases-loop-done
decreases-loop-done l = length l.bytes - l.done
