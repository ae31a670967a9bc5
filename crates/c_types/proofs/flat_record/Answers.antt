-- The 32 bytes of a flat product's record are what `sized_bytes` says of its fields.
use Rattle.c_types.specs.Flat.{record_flat}
use Rattle.c_types.proofs.flat_record.Goals as goal

pub returns : goal.returns
unfolding record_flat
returns c = c.sized_bytes-bytes.ensures
