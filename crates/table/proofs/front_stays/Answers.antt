-- The answer compares the key in the first place with what `front_key` gives, which is the front under the calendar on the
-- date. There are fifteen places, so the first can be read.
use Rattle.table.proofs.front_stays.Goals as goal

pub returns : goal.returns
returns c = rw c.front_key.ensures
