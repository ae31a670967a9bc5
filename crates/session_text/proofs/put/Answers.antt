-- The byte stands at the place and nothing else is changed: one write is a text of one byte (`one_byte`). The place is
-- within the buffer by what is required.
use native.Mathlib.Omega.{arith}
use Rattle.session_text.proofs.TextsInBuffer.{one_byte}
use Rattle.session_text.proofs.put.Goals as goal

pub returns : goal.returns
returns c = (one_byte _ _ _, omega arith)
