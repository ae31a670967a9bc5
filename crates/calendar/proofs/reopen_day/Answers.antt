-- The calendar with one day open again in both maps: a day outside the cover changes nothing, and both maps of another have its slot's bit cleared.
use Rattle.calendar.proofs.Reopening.{reopen-out}
use Rattle.calendar.specs.Trading.{reopen_day}
use Rattle.questions.proofs.Bools.{said-no, said-yes}
use mathlib.Core.Path.{refl}
use Rattle.calendar.proofs.reopen_day.Goals as goal

-- ---- where nothing changes
pub returns-then-not-in_cover : goal.returns-then-not-in_cover
returns-then-not-in_cover c = reopen-out _ _ (said-no c.in_cover.ensures c.if-not-in_cover.true)

-- ---- both maps
pub returns : goal.returns
unfolding reopen_day
returns c = rw (said-yes c.in_cover.ensures c.if-not-in_cover.false, c.clear_bit.ensures, c.clear_bit-2.ensures, c.slot_of-slot.ensures) refl
