-- Shown: the line of a maturity is written, at most 24 bytes and the width of its name. Its seven parts, the number, a space,
-- the name, a space, the day, the days stepped back and the line's end, go one after the other (`then`).
use native.Mathlib.Omega.{arith}
use Rattle.session_text.proofs.TextsInBuffer.{then}
use Rattle.session_text.specs.TermsText.{maturity_text}
use Rattle.session_text.proofs.put_maturity.Goals as goal

pub returns : goal.returns
unfolding maturity_text
returns c = (
  then c.put_decimal-space.ensures.0
      (then c.put-name.ensures.0 (then c.put_name-second.ensures.0
      (then c.put-day.ensures.0 (then c.put_day-third.ensures.0
      (then c.put_spaced-end.ensures.0 c.put.ensures.0))))),
  omega (
    arith,
    c.put_decimal-space.ensures.1,
    c.put-name.ensures.1,
    c.put_name-second.ensures.1,
    c.put-day.ensures.1,
    c.put_day-third.ensures.1,
    c.put_spaced-end.ensures.1,
    c.put.ensures.1,
  ),
)
