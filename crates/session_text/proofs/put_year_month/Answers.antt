-- The year in four digits, a hyphen and the month in two digits are written one after the other (`then`), at most 7 bytes.
use native.Mathlib.Omega.{arith}
use Rattle.session_text.proofs.TextsInBuffer.{then}
use Rattle.session_text.specs.TermsText.{year_month}
use Rattle.session_text.proofs.put_year_month.Goals as goal

pub returns : goal.returns
unfolding year_month
returns c = (
  then c.put_year-hyphen.ensures.0 (then c.put-next.ensures.0 c.put_two.ensures.0),
  omega (arith, c.put_year-hyphen.ensures.1, c.put-next.ensures.1, c.put_two.ensures.1),
)
