-- Question 24: yes for a kind that is not weekly; for a weekly one the date is at least seven days into the cover. Each `return` cites what
-- `is_weekly` said; the cover's start is at most 36,525, so the sum fits.
use Rattle.questions.proofs.Bools.{said-no, said-yes}
use Rattle.listing.specs.Months.{week_into_cover}
use native.Mathlib.Omega.{arith}
use Rattle.listing.proofs.is_week_into_cover.Goals as goal

pub returns-then-not-is_weekly : goal.returns-then-not-is_weekly
unfolding week_into_cover
returns-then-not-is_weekly c = rw (said-no c.is_weekly.ensures c.if-not-is_weekly.true)

pub overflow_add-result : goal.overflow_add-result
overflow_add-result c = omega (arith, c.cover_start.ensures)

pub returns : goal.returns
unfolding week_into_cover
returns c = rw (said-yes c.is_weekly.ensures c.if-not-is_weekly.false, c.cover_start.ensures.0)
