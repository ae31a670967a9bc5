-- Each turn makes one of the reads that are left; where none is left, or enough has come, or the buffer is full, they have ended.
use Rattle.std.proofs.Common.{◌≡◌, ◌≤◌, length}
use Rattle.streams.proofs.ReadsGoing.{Going}
use Rattle.streams.proofs.reads.read_on_or_error.Given as goal

abbrev pub invariant-loop-n : goal.invariant-loop-n
invariant-loop-n l =
    (length l.part ≡ length l.initial.part) × (l.n ≤ length l.part) × Going l.initial.so_far l.so_far l.enough (length l.initial.part) l.n

abbrev pub decreases-loop-n : goal.decreases-loop-n
decreases-loop-n l = l.so_far.left
