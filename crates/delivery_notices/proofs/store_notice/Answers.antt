-- `store_notice` puts one notice more after the first i of two lists: by `stored`, of the kind
-- and the first number that their functions give and of the writes of `put_call` and `put_id`.
use Rattle.delivery_notices.proofs.NoticesStored.{stored}
use Rattle.delivery_notices.proofs.store_notice.Goals as goal

pub put_call-requires : goal.put_call-requires
put_call-requires c = c.requires.0

pub put_id-requires : goal.put_id-requires
put_id-requires c = c.requires.1

pub returns : goal.returns
returns c =
    stored _ _ _ _ _ _ _ _ _ c.requires.0 c.requires.1 c.kind_in.ensures
    c.first_in.ensures c.put_call.ensures
    c.put_id.ensures
