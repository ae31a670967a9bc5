-- The record of a product: what `kind_number` and `sized_bytes` ensure, put together, is `record_bytes`.
use Rattle.file_write.specs.Writing.{record_bytes}
use Rattle.file_write.proofs.record_of.Goals as goal

pub returns : goal.returns
unfolding record_bytes
returns c = simp (c.sized_bytes.ensures, c.kind_number.ensures)
