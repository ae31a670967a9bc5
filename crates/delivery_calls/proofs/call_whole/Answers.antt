-- The table is put together, called and taken apart: put together again it is the called one.
use Rattle.delivery_calls.proofs.Making.{whole-made}
use Rattle.delivery_calls.proofs.call_whole.Goals as goal

pub returns : goal.returns
returns c =
    rw c.table_rest-next.ensures (whole-made _ _ (rw c.table_of-t.ensures at c.call-o.ensures))
