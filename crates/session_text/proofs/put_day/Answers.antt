-- Shown: the day's date is written, at most 10 bytes: year and month, a hyphen, the day in two digits, one after the other
-- (`then`). The date is that of `date_or_zeros`, which is the definition's.
use native.Mathlib.Omega.{arith}
use Rattle.session_text.proofs.TextsInBuffer.{then}
use Rattle.session_text.specs.TermsText.{date_text, day_text}
use Rattle.session_text.proofs.put_day.Goals as goal

pub returns : goal.returns
unfolding day_text date_text
returns c = (
  rw (← c.date_or_zeros-date.ensures)
      (then c.put_year_month-hyphen.ensures.0 (then c.put-next.ensures.0 c.put_two.ensures.0)),
  omega (arith, c.put_year_month-hyphen.ensures.1, c.put-next.ensures.1, c.put_two.ensures.1),
)
