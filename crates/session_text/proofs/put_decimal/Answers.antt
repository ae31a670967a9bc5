-- Shown: the number is written in decimal with no zeros before it, at most 5 bytes. One `return` for each number of digits,
-- 1 to 5: the tests say that the number has so many (`decimal-1` to `decimal-5`), and the parts are written one after the
-- other (`then`).
use Rattle.session_text.proofs.TermsTexts.{decimal-1, decimal-2, decimal-3, decimal-4, decimal-5}
use Rattle.session_text.proofs.TextsInBuffer.{then}
use native.Mathlib.Omega.{arith}
use Rattle.session_text.proofs.put_decimal.Goals as goal

-- ---- one and two digits
pub returns-then-n-lt10 : goal.returns-then-n-lt10
returns-then-n-lt10 c = (
  rw (decimal-1 _ c.if-n-lt10.true) c.put_digit.ensures.0,
  omega (arith, c.put_digit.ensures.1),
)

pub returns-then-n-lt100 : goal.returns-then-n-lt100
returns-then-n-lt100 c =
    (rw (decimal-2 _ c.if-n-lt10.false c.if-n-lt100.true) c.put_two.ensures.0, omega (arith, c.put_two.ensures.1))

-- ---- three and four digits
pub returns-then-n-lt1000 : goal.returns-then-n-lt1000
returns-then-n-lt1000 c = (
  rw (decimal-3 _ c.if-n-lt10.false c.if-n-lt100.false c.if-n-lt1000.true)
      (then c.put_digit-next.ensures.0 c.put_two-then-n-lt1000.ensures.0),
  omega (arith, c.put_digit-next.ensures.1, c.put_two-then-n-lt1000.ensures.1),
)

pub returns-then-n-lt10000 : goal.returns-then-n-lt10000
returns-then-n-lt10000 c = (
  rw (decimal-4 _ c.if-n-lt10.false c.if-n-lt100.false c.if-n-lt1000.false c.if-n-lt10000.true) c.put_four.ensures.0,
  omega (arith, c.put_four.ensures.1),
)

-- ---- five digits
pub returns : goal.returns
returns c = (
  rw (decimal-5 _ c.if-n-lt10.false c.if-n-lt100.false c.if-n-lt1000.false c.if-n-lt10000.false)
      (then c.put_digit-next-2.ensures.0 c.put_four-2.ensures.0),
  omega (arith, c.put_digit-next-2.ensures.1, c.put_four-2.ensures.1),
)
