-- The answer is that of the same question in `table_numbering`, of the table's places and kind.
use Rattle.table.proofs.is_listed.Goals as goal

pub returns : goal.returns
returns c = c.is_listed.ensures
