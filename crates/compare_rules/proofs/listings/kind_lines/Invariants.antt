-- `kind_lines` is shown to end and not to overflow; it returns where the number is no kind. The loop keeps: the date
-- is below 40,000, since a cover ends at day 36,525 at the latest and a step is 41 days. Each need is found by search.
use Prim.Native.Nat.{◌-◌, ◌<◌}
use Rattle.compare_rules.proofs.listings.kind_lines.Given as goal

-- ---- the loop's invariant and its measure
abbrev pub invariant-loop-date : goal.invariant-loop-date
invariant-loop-date l = l.date < 40000

abbrev pub decreases-loop-date : goal.decreases-loop-date
decreases-loop-date l = l.end - l.date
