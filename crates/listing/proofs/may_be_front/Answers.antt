-- Whether a key is in the first step's set and its last trading day is not before the date. The first `return` cites that it is not in the set; the
-- second cites that it is and answers the other half.
use Rattle.questions.proofs.Bools.{said-no, said-yes}
use Rattle.expiry.proofs.Stepping.{worked-day}
use Rattle.listing.proofs.may_be_front.Goals as goal

pub returns-then-not-in_set : goal.returns-then-not-in_set
returns-then-not-in_set c = rw (said-no c.in_set.ensures c.if-not-in_set.true)

pub returns : goal.returns
returns c = rw (worked-day _ _ _ _ _ c.last_trading_day_in-last.ensures, said-yes c.in_set.ensures c.if-not-in_set.false)
