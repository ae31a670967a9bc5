-- The calendar with one day closed: a day outside the cover changes nothing, and the first map of another has its slot's bit set.
use Rattle.calendar.proofs.Closing.{close-out}
use Rattle.calendar.specs.Trading.{close_day}
use Rattle.questions.proofs.Bools.{said-no, said-yes}
use mathlib.Core.Path.{refl}
use Rattle.calendar.proofs.close_day.Goals as goal

pub returns-then-not-in_cover : goal.returns-then-not-in_cover
returns-then-not-in_cover c = close-out _ _ (said-no c.in_cover.ensures c.if-not-in_cover.true)

pub returns : goal.returns
unfolding close_day
returns c = rw (said-yes c.in_cover.ensures c.if-not-in_cover.false, c.set_bit.ensures, c.slot_of.ensures) refl
