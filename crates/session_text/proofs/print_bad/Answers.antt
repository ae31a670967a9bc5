-- Shown: with room the buffer holds the answer to another line from the place on, without it nothing is written. The room of
-- 512 bytes is enough for the 4 that `put_bad` requires; what it writes is what is printed (`printed`).
use Rattle.session_text.proofs.TextsInBuffer.{printed, unprinted, room-long}
use Rattle.questions.proofs.Bools.{said-no, said-yes}
use native.Mathlib.Omega.{arith}
use Rattle.session_text.proofs.print_bad.Goals as goal

pub returns-then-not-has_room : goal.returns-then-not-has_room
returns-then-not-has_room c = unprinted (said-no c.has_room.ensures c.if-not-has_room.true)

pub put_bad-requires : goal.put_bad-requires
put_bad-requires c = omega (arith, room-long _ _ (said-yes c.has_room.ensures c.if-not-has_room.false))

pub shape_of-out : goal.shape_of-out
shape_of-out c = c.put_bad.ensures.0.long

pub returns : goal.returns
returns c =
    let yes-has-room = said-yes c.has_room.ensures c.if-not-has_room.false in
    let w = c.put_bad.ensures in
    printed yes-has-room w.0 (omega (arith, w.1))
