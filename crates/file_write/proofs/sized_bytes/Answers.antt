-- The record of fields with a size in ten-thousandths: what `shares_of` and `field_bytes` ensure; the part fits its number, by search.
use Rattle.file_write.proofs.sized_bytes.Goals as goal

pub returns : goal.returns
returns c = rw (c.field_bytes.ensures, c.shares_of-shares.ensures)
