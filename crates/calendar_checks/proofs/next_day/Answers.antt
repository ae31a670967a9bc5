-- The day plus 7 where it trades, else the day before, 0 before day 0. Each `return` computes the definition's case from the tests before it.
use mathlib.Core.Path.{refl}
use native.Mathlib.Omega.{arith}
use Rattle.calendar_checks.proofs.next_day.Goals as goal

pub returns-then-trades : goal.returns-then-trades
returns-then-trades c = rw c.if-trades.true refl

pub returns-then-day-eq0 : goal.returns-then-day-eq0
returns-then-day-eq0 c = rw c.if-trades.false (omega (arith, c.if-day-eq0.true))

pub returns : goal.returns
returns c = rw c.if-trades.false refl
