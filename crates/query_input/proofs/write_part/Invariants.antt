-- Buffer after buffer: what was written is the text up to the place that is reached.
use mathlib.Core.Path.{◌≡◌}
use Prim.Native.Nat.{◌-◌, ◌≤◌}
use lib.ListN.{length, drop}
use Rattle.delivery_queries.specs.Queries.{standing_in}
use Rattle.delivery_sessions.specs.QueryRuns.{QueryHanded}
use Rattle.query_input.proofs.write_part.Given as goal

abbrev pub invariant-loop-s : goal.invariant-loop-s
invariant-loop-s l =
    (512 ≤ length l.initial.out) × (length l.out ≡ length l.initial.out) × (length l.refusals ≡ length l.initial.refusals)
    × QueryHanded (standing_in l.judged l.file l.t l.calls l.ids (length l.initial.refusals)) l.initial.s.number
    l.initial.s.refused l.initial.s.line l.part l.initial.sent.bytes l.s.number
    l.s.refused l.s.line (drop l.s.at l.part) l.sent.bytes

abbrev pub decreases-loop-s : goal.decreases-loop-s
decreases-loop-s l = length l.part - l.s.at
