-- Yes exactly where 512 bytes from the place on are within the buffer. A buffer below 512 has no room for any place
-- (`no_room`); of another the difference does not fall below 0, and the test is the definition's (`room-is`).
use mathlib.Core.Path.{sym}
use Rattle.session_text.proofs.TextsInBuffer.{no_room, room-is}
use Rattle.session_text.proofs.has_room.Goals as goal

pub returns-then-out-lt512 : goal.returns-then-out-lt512
returns-then-out-lt512 c = sym (no_room _ _ c.if-out-lt512.true)

pub returns : goal.returns
returns c = room-is _ _ c.if-out-lt512.false
