-- Shown: the year is written in four digits, 4 bytes. Before 2000 and from 2100 on that is the contract of `put_four`; else
-- the digits are 2, 0 and those of the year less 2000 (`year-digits`), written one after the other (`then`).
use native.Mathlib.Omega.{arith}
use Rattle.session_text.proofs.TermsTexts.{year-digits}
use Rattle.session_text.proofs.TextsInBuffer.{then}
use Rattle.session_text.proofs.put_year.Goals as goal

-- ---- a year from 2000 to 2099
pub returns : goal.returns
returns c = (
  rw (year-digits c.args.year (omega arith) (omega arith))
      (then c.put-second.ensures.0 (then c.put-third.ensures.0 c.put_two.ensures.0)),
  omega (arith, c.put-second.ensures.1, c.put-third.ensures.1, c.put_two.ensures.1),
)
