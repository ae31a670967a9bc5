-- A line with a number in decimal more. The five returns are numbers of one to five digits (decimal-1 to decimal-5); each cites the tests before it.
use Rattle.session_text.proofs.TermsTexts.{decimal-1, decimal-2, decimal-3, decimal-4, decimal-5}
use Rattle.file_text_print.proofs.Building.{then}
use Rattle.file_text_print.proofs.with_decimal.Goals as goal

pub returns-then-n-lt10 : goal.returns-then-n-lt10
returns-then-n-lt10 c = rw (decimal-1 _ c.if-n-lt10.true) c.with_digit.ensures

pub returns-then-n-lt100 : goal.returns-then-n-lt100
returns-then-n-lt100 c = rw (decimal-2 _ c.if-n-lt10.false c.if-n-lt100.true) c.with_two.ensures

pub returns-then-n-lt1000 : goal.returns-then-n-lt1000
returns-then-n-lt1000 c = rw (decimal-3 _ c.if-n-lt10.false c.if-n-lt100.false c.if-n-lt1000.true)
    (then c.with_digit-then-n-lt1000.ensures c.with_two-then-n-lt1000.ensures)

pub returns-then-n-lt10000 : goal.returns-then-n-lt10000
returns-then-n-lt10000 c = rw (decimal-4 _ c.if-n-lt10.false c.if-n-lt100.false c.if-n-lt1000.false
    c.if-n-lt10000.true) c.with_four.ensures

pub returns : goal.returns
returns c = rw (decimal-5 _ c.if-n-lt10.false c.if-n-lt100.false
    c.if-n-lt1000.false c.if-n-lt10000.false) (then c.with_digit-2.ensures c.with_four-2.ensures)
