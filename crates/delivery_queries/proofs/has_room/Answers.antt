-- The test answers whether a buffer has room for any answer.
use mathlib.Core.Path.{sym}
use Rattle.session_text.proofs.TextsInBuffer.{no_room, room-is}
use Rattle.delivery_queries.proofs.has_room.Goals as goal

pub returns-then-out-lt512 : goal.returns-then-out-lt512
returns-then-out-lt512 c = sym (no_room _ _ c.if-out-lt512.true)

pub returns : goal.returns
returns c = room-is _ _ c.if-out-lt512.false
