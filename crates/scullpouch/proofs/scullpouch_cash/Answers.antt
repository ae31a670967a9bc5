-- The cash of a flat table: the library's answer on the table that `unflat_table` gives.
use Rattle.scullpouch.proofs.scullpouch_cash.Goals as goal

pub returns : goal.returns
returns c = rw c.unflat_table.ensures at c.cash.ensures
