-- The number is written in four digits, 4 bytes: the hundreds in two digits, then the remainder by 100 in two (`then`).
use native.Mathlib.Omega.{arith}
use Rattle.session_text.proofs.TextsInBuffer.{then}
use Rattle.session_text.specs.TermsText.{in_four_digits}
use Rattle.session_text.proofs.put_four.Goals as goal

pub returns : goal.returns
unfolding in_four_digits
returns c = (
  then c.put_two-next.ensures.0 c.put_two.ensures.0,
  omega (arith, c.put_two-next.ensures.1, c.put_two.ensures.1),
)
