-- The table taken apart and put together is itself, and question 10 of it is asked before the loop.
use Rattle.delivery_tables.proofs.take_notices.Goals as goal

pub run_notices-rest-requires : goal.run_notices-rest-requires
run_notices-rest-requires c =
    (c.requires, rw c.table_rest-start.ensures c.is_sound-ten.ensures)

pub shape_of-refusals : goal.shape_of-refusals
shape_of-refusals c = c.run_notices-rest.ensures.long

pub returns : goal.returns
returns c =
    rw c.table_of.ensures (rw c.table_rest-start.ensures at c.run_notices-rest.ensures)
