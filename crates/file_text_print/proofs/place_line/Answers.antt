-- The line of a place: the product's where the place holds a record (place-held), else no bytes (place_none).
use Rattle.file_text_print.proofs.Building.{nothing, place-held, place_none}
use mathlib.Core.Path.{sym, ◌∙◌}
use Rattle.file_text_print.proofs.place_line.Goals as goal

pub returns-then-is_record : goal.returns-then-is_record
returns-then-is_record c = place-held _ _ _ (sym c.is_record.ensures ∙ c.if-is_record.true) _ c.record_at.ensures
    c.product_line.ensures

pub returns : goal.returns
returns c = place_none _ _ _ (sym c.is_record.ensures ∙ c.if-is_record.false) (nothing _ c.empty_line.ensures)
