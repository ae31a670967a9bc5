-- The number is written in two digits, 2 bytes: the last digit of its tenth part, then its own last digit (`then`).
use native.Mathlib.Omega.{arith}
use Rattle.session_text.proofs.TextsInBuffer.{then}
use Rattle.session_text.specs.TermsText.{in_two_digits}
use Rattle.session_text.proofs.put_two.Goals as goal

pub returns : goal.returns
unfolding in_two_digits
returns c = (
  then c.put_digit-next.ensures.0 c.put_digit.ensures.0,
  omega (arith, c.put_digit-next.ensures.1, c.put_digit.ensures.1),
)
