-- Shown: N, O, a space, the number and the line's end are written, at most 9 bytes. Each part goes on where the one before
-- ended (`then`); the room for each is found by search.
use native.Mathlib.Omega.{arith}
use Rattle.session_text.proofs.TextsInBuffer.{then}
use Rattle.session_text.specs.TermsText.{refusal_text}
use Rattle.session_text.proofs.put_refusal.Goals as goal

pub returns : goal.returns
unfolding refusal_text
returns c = (
  then c.put-second.ensures.0 (then c.put-space.ensures.0 (then c.put_spaced-end.ensures.0 c.put.ensures.0)),
  omega (arith, c.put-second.ensures.1, c.put-space.ensures.1, c.put_spaced-end.ensures.1, c.put.ensures.1),
)
