-- Shown: B, A, D and the line's end are written, 4 bytes. Each `put` goes on where the one before ended (`then`); the room
-- for each is found by search.
use native.Mathlib.Omega.{arith}
use Rattle.session_text.proofs.TextsInBuffer.{then}
use Rattle.session_text.specs.TermsText.{bad_text}
use Rattle.session_text.proofs.put_bad.Goals as goal

pub returns : goal.returns
unfolding bad_text
returns c = (
  then c.put-second.ensures.0 (then c.put-third.ensures.0 (then c.put-end.ensures.0 c.put.ensures.0)),
  omega (arith, c.put-second.ensures.1, c.put-third.ensures.1, c.put-end.ensures.1, c.put.ensures.1),
)
