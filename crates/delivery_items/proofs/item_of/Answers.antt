-- `item_of` gives no row of a line of more than 255 bytes (`too_long`), else that of its fields (`not-too-long`).
use mathlib.Core.Path.{◌∙◌}
use Rattle.delivery_items.proofs.ItemForms.{too_long, not-too-long}
use Rattle.delivery_items.proofs.item_of.Goals as goal

pub returns-then-text-gt255 : goal.returns-then-text-gt255
returns-then-text-gt255 c = c.no_item.ensures ∙ too_long _ c.if-text-gt255.true

pub returns : goal.returns
returns c = c.fields_item.ensures ∙ not-too-long _ c.if-text-gt255.false
