-- `has_room` says whether 1,024 bytes fit from a place on: not in a shorter buffer (`too_short`), else by the comparison (`room-is`).
use mathlib.Core.Path.{sym}
use Rattle.delivery_rows.proofs.RowsInBuffer.{too_short, room-is}
use Rattle.delivery_rows.proofs.has_room.Goals as goal

pub returns-then-out-lt1024 : goal.returns-then-out-lt1024
returns-then-out-lt1024 c = sym (too_short _ _ c.if-out-lt1024.true)

pub returns : goal.returns
returns c = room-is _ _ c.if-out-lt1024.false
