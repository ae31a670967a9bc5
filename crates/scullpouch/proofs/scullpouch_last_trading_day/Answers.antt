-- A last trading day of a flat table: the library's answer on the table that `unflat_table` gives.
use Rattle.scullpouch.proofs.scullpouch_last_trading_day.Goals as goal

pub returns : goal.returns
returns c = rw c.unflat_table.ensures at c.last_trading_day.ensures
