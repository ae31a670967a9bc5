-- `day_lines` is shown to end and not to overflow. The loop keeps: the day fits 16 bits; with a step of 1
-- to 99 and an end below 40,000 the next day fits and is nearer to the end. Each need is found by search.
use Prim.Native.Nat.{◌-◌, ◌+◌, ◌<◌}
use Rattle.compare_rules.proofs.calendars.day_lines.Given as goal

abbrev pub invariant-loop-day : goal.invariant-loop-day
invariant-loop-day g l = l.day < 65536

abbrev pub decreases-loop-day : goal.decreases-loop-day
decreases-loop-day g l = l.to + 1 - l.day
