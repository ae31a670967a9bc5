-- `deliver` opens a product's table and takes the notices. A buffer without room for their refusals takes
-- none (`not_made`); else the table is the opened one after all of them, as `take_notices` says (`all_made`).
use Rattle.delivery_tables.proofs.NoticesOnTable.{not_made, all_made}
use Rattle.delivery_tables.proofs.deliver.Goals as goal

pub returns-then-refusals-count : goal.returns-then-refusals-count
returns-then-refusals-count c = not_made _ _ _ _ _ _ _ _ c.open_in-opened.ensures c.if-refusals-count.true

pub take_notices-after-requires : goal.take_notices-after-requires
take_notices-after-requires c = c.if-refusals-count.false

pub shape_of-refusals : goal.shape_of-refusals
shape_of-refusals c = c.take_notices-after.ensures.long

pub returns : goal.returns
returns c =
    all_made _ _ _ _ _ _ _ _ c.open_in-opened.ensures _ _ c.if-refusals-count.false
    c.take_notices-after.ensures
