-- `with_number` adds a 64-bit number without zeros before it. It has at most 8 digits (`number-8`), at most 16 (`number-16`)
-- or more (`number-24`); the groups of eight after the first are printed whole, and each is below 100,000,000.
use Rattle.file_text_print.proofs.Building.{then}
use Rattle.delivery_answers.proofs.ReplyTexts.{number-8, number-16, number-24}
use Rattle.delivery_answers.proofs.with_number.Goals as goal

pub returns-then-n-lt100000000 : goal.returns-then-n-lt100000000
returns-then-n-lt100000000 c = number-8 _ _ _ c.if-n-lt100000000.true c.with_short.ensures

pub returns-then-upper-lt100000000 : goal.returns-then-upper-lt100000000
returns-then-upper-lt100000000 c = number-16 _ _ _ c.if-n-lt100000000.false c.if-upper-lt100000000.true
    (then c.with_short-then-upper-lt100000000.ensures c.with_eight.ensures)

pub returns : goal.returns
returns c = number-24 _ _ _ c.if-n-lt100000000.false c.if-upper-lt100000000.false
    (then (then c.with_short-top.ensures c.with_eight-2.ensures) c.with_eight-3.ensures)
