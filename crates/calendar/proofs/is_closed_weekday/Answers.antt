-- Question 26: a closed Monday to Friday. The `return` of no cites `is_closed`; the other answer is the weekday's test.
use Rattle.calendar.specs.Trading.{closed_weekday}
use Rattle.questions.proofs.Bools.{said-no, said-yes}
use Rattle.calendar.proofs.is_closed_weekday.Goals as goal

pub returns-then-not-is_closed : goal.returns-then-not-is_closed
unfolding closed_weekday
returns-then-not-is_closed c = rw (said-no c.is_closed.ensures c.if-not-is_closed.true)

pub returns : goal.returns
unfolding closed_weekday
returns c = rw (c.weekday.ensures, said-yes c.is_closed.ensures c.if-not-is_closed.false)
