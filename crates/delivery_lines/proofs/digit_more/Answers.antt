-- `digit_more` appends a digit to a number and holds it at 1,000,000,000: a larger
-- one by `held-large`, another by `held_small`. In 64 bits neither step overflows.
use Rattle.delivery_lines.proofs.NoticeValues.{held_small, held-large}
use Rattle.delivery_lines.proofs.digit_more.Goals as goal

pub returns-then-next-gt1000000000 : goal.returns-then-next-gt1000000000
returns-then-next-gt1000000000 c = held-large _ c.if-next-gt1000000000.true

pub returns : goal.returns
returns c = held_small _ c.if-next-gt1000000000.false
