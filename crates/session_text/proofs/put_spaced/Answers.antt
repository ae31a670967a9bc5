-- A space and then the number in decimal are written, at most 6 bytes, one after the other (`then`).
use native.Mathlib.Omega.{arith}
use Rattle.session_text.proofs.TextsInBuffer.{then}
use Rattle.session_text.specs.TermsText.{spaced}
use Rattle.session_text.proofs.put_spaced.Goals as goal

pub returns : goal.returns
unfolding spaced
returns c = (
  then c.put-next.ensures.0 c.put_decimal.ensures.0,
  omega (arith, c.put-next.ensures.1, c.put_decimal.ensures.1),
)
