-- The 32 bytes of the record with these fields: the array that is made is `field_bytes`, by computing.
-- That each read lies in its array and each half of a number fits a byte is found by search.
use mathlib.Core.Path.{refl}
use Rattle.file_records.specs.Records.{three_bytes, four_bytes}
use Rattle.file_write.specs.Writing.{field_bytes}
use Rattle.file_write.proofs.field_bytes.Goals as goal

-- ---- the record
pub returns : goal.returns
unfolding field_bytes four_bytes three_bytes
returns c = refl
