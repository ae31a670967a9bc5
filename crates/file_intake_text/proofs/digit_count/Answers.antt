-- One case for each number of digits.
use native.Mathlib.Omega.{arith}
use Rattle.file_intake_text.proofs.Digits.{count-1, count-2, count-3, count-4, count-5}
use Rattle.file_intake_text.proofs.digit_count.Goals as goal

pub returns-then-n-lt10 : goal.returns-then-n-lt10
returns-then-n-lt10 c = (count-1 _ c.if-n-lt10.true, omega arith)

pub returns-then-n-lt100 : goal.returns-then-n-lt100
returns-then-n-lt100 c = (count-2 _ c.if-n-lt10.false c.if-n-lt100.true, omega arith)

pub returns-then-n-lt1000 : goal.returns-then-n-lt1000
returns-then-n-lt1000 c = (count-3 _ c.if-n-lt10.false c.if-n-lt100.false c.if-n-lt1000.true, omega arith)

pub returns-then-n-lt10000 : goal.returns-then-n-lt10000
returns-then-n-lt10000 c =
    (count-4 _ c.if-n-lt10.false c.if-n-lt100.false c.if-n-lt1000.false c.if-n-lt10000.true, omega arith)

pub returns : goal.returns
returns c =
    (count-5 _ c.if-n-lt10.false c.if-n-lt100.false c.if-n-lt1000.false c.if-n-lt10000.false, omega arith)
