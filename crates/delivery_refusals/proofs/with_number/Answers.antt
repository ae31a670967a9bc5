-- `with_number` adds a number of up to five digits: below 10,000 what `with_decimal`
-- adds, found by search; else its first digit and its last four (`number-large`).
use Rattle.delivery_refusals.proofs.RefusalsTold.{number-large}
use Rattle.delivery_refusals.proofs.with_number.Goals as goal

pub returns : goal.returns
returns c = number-large _ _ _ _ c.if-n-lt10000.false c.with_digit-first.ensures c.with_four.ensures
