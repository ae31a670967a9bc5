-- Shown: the lent map is that of the calendar with the day closed. The byte of the day's slot is below 736 by what is
-- required, so it can be read and written, and the write with the slot's bit is the definition's (`map-store`).
use native.Mathlib.Omega.{arith}
use Rattle.session_apart.proofs.Keeping.{map-store}
use Rattle.session_apart.proofs.close_in.Goals as goal

pub bounds-closed-at : goal.bounds-closed-at
bounds-closed-at c = omega (arith, c.slot_of-slot.ensures, c.requires.1)

pub bounds-closed-at-2 : goal.bounds-closed-at-2
bounds-closed-at-2 c = omega (arith, c.slot_of-slot.ensures, c.requires.1)

pub returns : goal.returns
returns c = map-store _ _ _ _ c.slot_of-slot.ensures c.requires.0
