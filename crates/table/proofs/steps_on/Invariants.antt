-- The loop keeps: n is from 1 to 7, the day is below 36,525, so the sum fits, and the search from n on finds what the search from 1 finds. A trading
-- day is found (`search-at`), another is passed (`search-on`).
use Prim.Native.Nat.{◌≤◌, ◌<◌}
use Rattle.calendar.specs.Trading.{calendar_with}
use Rattle.table.specs.Table.{steps_on}
use Rattle.table.proofs.Around.{Searching, on_test}
use Rattle.table.proofs.steps_on.Given as goal

abbrev pub invariant-loop-n : goal.invariant-loop-n
invariant-loop-n l = (1 ≤ l.n) × (l.n ≤ 7) × (l.day < 36525)
    × Searching (on_test (calendar_with l.cover l.closed) l.day) l.n (steps_on (calendar_with l.cover l.closed) l.day)
