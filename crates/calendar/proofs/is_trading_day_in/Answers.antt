-- Whether a day is a Monday to Friday in the cover that is not closed. The first two `return`s cite the test that fails; the last reads the bit at the
-- day's slot.
use Rattle.questions.proofs.Bools.{said-no, said-yes}
use Rattle.calendar.specs.Trading.{closed_on, trading_day}
use borrow.Author.Tests.{lt-ltb, le-ltb}
use Rattle.calendar.proofs.is_trading_day_in.Goals as goal

-- ---- a day outside the cover, or of a weekend
pub returns-then-not-has_year_of : goal.returns-then-not-has_year_of
unfolding trading_day
returns-then-not-has_year_of c = simp (said-no c.has_year_of.ensures c.if-not-has_year_of.true)

pub returns-then-weekday-ge5 : goal.returns-then-weekday-ge5
unfolding trading_day
returns-then-weekday-ge5 c = simp (
  said-yes c.has_year_of.ensures c.if-not-has_year_of.false,
  le-ltb _ _ (rw c.weekday.ensures at c.if-weekday-ge5.true),
)

-- ---- the bit in the map
pub returns : goal.returns
unfolding trading_day closed_on
returns c = simp (
  said-yes c.has_year_of.ensures c.if-not-has_year_of.false,
  lt-ltb _ _ (rw c.weekday.ensures at c.if-weekday-ge5.false),
  c.has_bit.ensures,
  c.slot_of.ensures,
)
