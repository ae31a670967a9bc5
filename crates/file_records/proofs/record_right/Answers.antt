-- Whether a record is as stated: each field is read as the definition reads it, and the answers on the fields, the size and the zero bytes are joined
-- in its order. By the calls' contracts.
use Rattle.file_records.specs.Records.{record_right}
use Rattle.file_records.proofs.record_right.Goals as goal

pub returns : goal.returns
unfolding record_right
returns c =
    simp (
      c.are_zero.ensures,
      c.file_size_right.ensures,
      c.field_at-3.ensures,
      c.field_at-2.ensures,
      c.fields_right.ensures,
      c.three_at.ensures,
      c.field_at.ensures,
      c.size_at.ensures,
      c.byte_at.ensures,
      c.four_at-3.ensures,
      c.four_at-2.ensures,
      c.four_at.ensures,
    )
