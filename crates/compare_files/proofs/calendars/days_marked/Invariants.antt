-- `days_marked` is shown not to overflow. The loop keeps: the count is at most the day and the sum at most 36,525 times the day.
use Prim.Native.Nat.{◌*◌, ◌≤◌}
use Rattle.compare_files.proofs.calendars.days_marked.Given as goal

abbrev pub invariant-loop-day : goal.invariant-loop-day
invariant-loop-day g l = (l.count ≤ l.day) × (l.sum ≤ 36525 * l.day) × (l.day-end ≤ 36525)
