-- Line after line: what stands in the buffer is the text up to the place that is reached.
use mathlib.Core.Path.{◌≡◌}
use Prim.Native.Nat.{◌-◌}
use lib.ListN.{length}
use Rattle.delivery_queries.specs.Queries.{standing_in}
use Rattle.delivery_sessions.proofs.QueryPassing.{Going}
use Rattle.delivery_sessions.proofs.answer_part.Given as goal

abbrev pub invariant-loop-judged : goal.invariant-loop-judged
invariant-loop-judged l =
    Going (standing_in l.judged l.file l.t l.calls l.ids (length l.initial.refusals)) l.initial.s.number
    l.initial.s.refused l.initial.s.line l.part l.initial.s.at l.initial.out l.out l.s
    × (length l.refusals ≡ length l.initial.refusals)

abbrev pub decreases-loop-judged : goal.decreases-loop-judged
decreases-loop-judged l = length l.part - l.s.at
