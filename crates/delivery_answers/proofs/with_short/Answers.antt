-- `with_short` adds a number of at most eight digits without zeros before it: below 10,000 as
-- it is (`short-few`), else the digits before the last four and then those four (`short-many`).
use Rattle.file_text_print.proofs.Building.{then}
use Rattle.delivery_answers.proofs.ReplyTexts.{short-few, short-many}
use Rattle.delivery_answers.proofs.with_short.Goals as goal

pub returns-then-n-lt10000 : goal.returns-then-n-lt10000
returns-then-n-lt10000 c = short-few _ _ _ c.if-n-lt10000.true c.with_decimal.ensures

pub returns : goal.returns
returns c = short-many _ _ _ c.if-n-lt10000.false (then c.with_decimal-first.ensures c.with_four.ensures)
