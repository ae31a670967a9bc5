-- `fields_item` gives the row of a line's fields: three are a short row (`three-fields`), five a full
-- one, whose two numbers are at most 65,535 (`five-fields`), any other number none (`other-fields`).
use mathlib.Core.List.{List}
use Prim.Native.Nat.{ℕ}
use Rattle.file_text_lines.specs.Entries.{word_number}
use mathlib.Core.Path.{◌∙◌, ap}
use Rattle.delivery_items.proofs.ItemForms.{three-fields, five-fields, other-fields}
use Rattle.file_text_lines.proofs.NumberWords.{at_most}
use Rattle.delivery_items.proofs.fields_item.Goals as goal

-- ---- three fields
pub returns-then-fields-eq3 : goal.returns-then-fields-eq3
returns-then-fields-eq3 c = three-fields _ _ c.field_count-fields.ensures _ _ _ c.line_field-id.ensures
    c.if-fields-eq3.true c.line_field.ensures c.line_field-then-fields-eq3.ensures _ c.short_item.ensures

-- ---- five fields
pub full_item-requires : goal.full_item-requires
full_item-requires c = (at_most _ _ _ c.word_number-number.ensures, at_most _ _ _ c.word_number-back.ensures)

pub returns-then-fields-eq5 : goal.returns-then-fields-eq5
returns-then-fields-eq5 c = five-fields _ _ c.field_count-fields.ensures _ _ _
    c.line_field-id.ensures
    c.if-fields-eq5.true
    c.line_field-then-fields-eq5.ensures
    c.line_field-then-fields-eq5-2.ensures _ c.short_item-item.ensures _ _
    (c.word_number-number.ensures ∙ ap (λ (w : List ℕ). word_number w 65535) c.line_field-then-fields-eq5-3.ensures)
    (c.word_number-back.ensures ∙ ap (λ (w : List ℕ). word_number w 65535) c.line_field-then-fields-eq5-4.ensures) _ c.full_item.ensures

-- ---- another number of fields
pub returns : goal.returns
returns c = c.no_item.ensures ∙ other-fields _ _ c.field_count-fields.ensures c.if-fields-eq3.false
    c.if-fields-eq5.false
