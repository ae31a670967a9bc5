-- Whether a price passes by a flat table: the library's answer on the table that `unflat_table` gives.
use Rattle.scullpouch.proofs.scullpouch_tick.Goals as goal

pub returns : goal.returns
returns c = rw c.unflat_table.ensures at c.tick.ensures
