-- Whether a place holds a record: its block is a product block and counts it.
-- What `block_at`, `byte_at` and `number_at` ensure, put together, is the definition `is_record`.
use Rattle.file_ids.specs.Ids.{is_record}
use Rattle.file_ids.proofs.is_record.Goals as goal

pub returns : goal.returns
unfolding is_record
returns c = simp (c.number_at.ensures.0, c.byte_at.ensures, c.block_at-b.ensures.0)
