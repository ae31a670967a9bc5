-- Within the cover the next month of the set is the one that follows from the remainder; where that lies beyond, none of the cover's is in the set.
use Rattle.listing.proofs.NextMonths.{none_left, next-beyond, next-is}
use Rattle.listing.proofs.next_month.Goals as goal

pub returns-then-end-from : goal.returns-then-end-from
returns-then-end-from c = none_left _ _ _ c.if-end-from.true

pub months_to_set-months-requires : goal.months_to_set-months-requires
months_to_set-months-requires c = c.requires

pub returns-then-end-from-2 : goal.returns-then-end-from-2
returns-then-end-from-2 c = next-beyond _ _ _ _ c.months_to_set-months.ensures c.if-end-from-2.true

pub returns : goal.returns
returns c = next-is _ _ _ _ c.months_to_set-months.ensures c.if-end-from-2.false
