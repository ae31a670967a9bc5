-- Part after part: a run from here on is the rest of one from line 1 on, with as many bytes as were read; after the last read the last line ends it.
use mathlib.Core.Path.{◌≡◌}
use Prim.Native.Nat.{◌≤◌}
use lib.ListN.{length}
use Rattle.delivery_queries.specs.Queries.{standing_in}
use Rattle.delivery_sessions.specs.QueryRuns.{Came}
use Rattle.query_input.proofs.write_rest.Given as goal

abbrev pub invariant-loop-part : goal.invariant-loop-part
invariant-loop-part l =
    (512 ≤ length l.initial.out) × (length l.out ≡ length l.initial.out) × (length l.refusals ≡ length l.initial.refusals) × (length l.part ≡ 65536)
    × Came (standing_in l.judged l.file l.t l.calls l.ids (length l.initial.refusals)) l.k.progress.number l.k.progress.refused l.k.progress.line
    l.k.sent.bytes l.input.bytes

abbrev pub decreases-loop-part : goal.decreases-loop-part
decreases-loop-part l = l.input.left
