-- The day after where the day trades, else `first` as it was. Each `return` computes the definition's case from its test.
use mathlib.Core.Path.{refl}
use Rattle.calendar_checks.proofs.next_first.Goals as goal

pub returns-then-trades : goal.returns-then-trades
returns-then-trades c = rw c.if-trades.true refl

pub returns : goal.returns
returns c = rw c.if-trades.false refl
