-- `full_item` gives no row where the short row or a number is missing (`full-none`),
-- else the row with both numbers (`full_is`), which fit 16 bits by what is required.
use Rattle.delivery_items.proofs.ItemForms.{full-none, full_is}
use mathlib.Core.Path.{◌∙◌}
use Rattle.delivery_items.proofs.full_item.Goals as goal

pub returns-then-not-item-number : goal.returns-then-not-item-number
returns-then-not-item-number c = c.no_item.ensures ∙ full-none _ _ _ c.if-not-item-number.true

pub returns : goal.returns
returns c = full_is _ _ _ c.if-not-item-number.false
