-- `put_together` gives the progress of a step with the maps in its table again: `table_of` says what the table is, the rest are the same fields.
use Rattle.session_parts.proofs.put_together.Goals as goal

pub returns : goal.returns
returns c = rw c.table_of-table.ensures
