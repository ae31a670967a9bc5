-- Shown: the first line of an accepted call is written, at most 31 bytes. Its seven parts, the letter, a space, the date,
-- three numbers with a space each and the line's end, go one after the other (`then`); the room for each is found by search.
use native.Mathlib.Omega.{arith}
use Rattle.session_text.proofs.TextsInBuffer.{then}
use Rattle.session_text.specs.TermsText.{heading_text}
use Rattle.session_text.proofs.put_heading.Goals as goal

pub returns : goal.returns
unfolding heading_text
returns c = (
  then c.put-space.ensures.0 (then c.put-day.ensures.0
      (then c.put_day-first.ensures.0
      (then c.put_spaced-second.ensures.0
      (then c.put_spaced-third.ensures.0 (then c.put_spaced-end.ensures.0 c.put.ensures.0))))),
  omega (
    arith,
    c.put-space.ensures.1,
    c.put-day.ensures.1,
    c.put_day-first.ensures.1,
    c.put_spaced-second.ensures.1,
    c.put_spaced-third.ensures.1,
    c.put_spaced-end.ensures.1,
    c.put.ensures.1,
  ),
)
