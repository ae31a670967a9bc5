-- `short_item` gives the row of three fields: none where the id, the maturity or the last day
-- is none (`item-none`), else a row with the id's bytes, the key and the day (`item-is`).
use mathlib.Core.Path.{◌∙◌}
use Rattle.delivery_items.proofs.ItemForms.{item-none, item-is}
use Rattle.delivery_items.proofs.short_item.Goals as goal

pub returns-then-not-is_id-first : goal.returns-then-not-is_id-first
returns-then-not-is_id-first c = c.no_item.ensures ∙ item-none _ _ _ _ _ _ c.is_id.ensures
    c.maturity_read-first.ensures c.date_in-end.ensures
    c.if-not-is_id-first.true

pub returns : goal.returns
returns c = item-is _ _ _ _ _ _ c.is_id.ensures
    c.maturity_read-first.ensures c.date_in-end.ensures
    c.if-not-is_id-first.false _ _ c.id_bytes-four.ensures c.key_read.ensures
