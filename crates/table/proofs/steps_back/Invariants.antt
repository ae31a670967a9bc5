-- The loop keeps: n is from 1 to 7, and the search from n on finds what the search from 1 finds. A day below n has no earlier day left
-- (`back_none`); a trading day is found (`search-at`), another is passed (`search-on`).
use Prim.Native.Nat.{◌≤◌}
use Rattle.calendar.specs.Trading.{calendar_with}
use Rattle.table.specs.Table.{steps_back}
use Rattle.table.proofs.Around.{Searching, back_test}
use Rattle.table.proofs.steps_back.Given as goal

-- ---- what the loop keeps
abbrev pub invariant-loop-n : goal.invariant-loop-n
invariant-loop-n l = (1 ≤ l.n) × (l.n ≤ 7) × Searching (back_test (calendar_with l.cover l.closed) l.day) l.n (steps_back (calendar_with l.cover l.closed) l.day)
