-- Question 10, the room, then the rows that the library prints from the start of the buffer.
use Rattle.questions.proofs.Bools.{said-yes}
use Rattle.c_delivery.proofs.Delivering.{not_sound, no_room, all-rows}
use Rattle.c_delivery.proofs.rows.Goals as goal

pub returns-then-not-is_sound : goal.returns-then-not-is_sound
returns-then-not-is_sound c = rw (← c.unflat_table-table.ensures) (not_sound _ _ _ c.is_sound.ensures c.if-not-is_sound.true)

pub returns-then-out-lt1024 : goal.returns-then-out-lt1024
returns-then-out-lt1024 c =
    rw (← c.unflat_table-table.ensures)
    (no_room _ _ (said-yes c.is_sound.ensures c.if-not-is_sound.false) c.if-out-lt1024.true)

pub returns : goal.returns
returns c =
    rw (← c.unflat_table-table.ensures)
    (all-rows _ _ (said-yes c.is_sound.ensures c.if-not-is_sound.false) c.if-out-lt1024.false _ _ c.print_rows-length.ensures)
