-- The size in a record, in ten-thousandths of a share: 10,000 times the shares and the part, by the contract of `field_at`. The sizes are found
-- by search.
use Rattle.file_records.specs.Records.{size_at}
use Rattle.file_records.proofs.size_at.Goals as goal

pub returns : goal.returns
unfolding size_at
returns c = simp (c.from.ensures, c.from-2.ensures, c.field_at-part.ensures, c.field_at-shares.ensures)
