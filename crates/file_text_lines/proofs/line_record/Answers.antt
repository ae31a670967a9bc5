-- The record of a line with the words of a product: `field_bytes` of the fields that the words 1, 2, 3 and 7 give.
-- The bytes taken from each word make `line_record` (record-words).
use mathlib.Core.Path.{◌∙◌}
use Rattle.file_text_lines.proofs.EntryForms.{record-words}
use Rattle.file_text_lines.proofs.line_record.Goals as goal

pub returns : goal.returns
returns c =
    c.field_bytes.ensures
    ∙ record-words _ _ _ _ _ c.word_at.ensures c.id_bytes-id.ensures c.word_at-2.ensures c.four_at-group.ensures
    c.word_at-3.ensures c.four_at-market.ensures c.word_at-4.ensures c.three_at-currency.ensures
