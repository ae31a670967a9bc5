-- `key_read` gives a month's number where the field has 7 bytes (`key-month`), else the day of the Friday (`key-friday`).
use mathlib.Core.Path.{◌∙◌}
use Rattle.delivery_items.proofs.ItemForms.{key-month, key-friday}
use Rattle.delivery_items.proofs.key_read.Goals as goal

pub returns-then-field-eq7 : goal.returns-then-field-eq7
returns-then-field-eq7 c = c.month_of.ensures ∙ key-month _ _ c.if-field-eq7.true

pub returns : goal.returns
returns c = key-friday _ _ c.if-field-eq7.false
