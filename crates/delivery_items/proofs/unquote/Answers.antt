-- `unquote` drops a field's quotes. A field of fewer than two bytes (`short-field`) and one without a quote at its
-- start (`unquoted-start`) or at its end (`unquoted-end`) stay; of another the bytes between are given (`quoted`).
use Rattle.delivery_items.proofs.ItemForms.{short-field, unquoted-start, unquoted-end, quoted}
use Rattle.delivery_items.proofs.unquote.Goals as goal

pub returns-then-n-lt2 : goal.returns-then-n-lt2
returns-then-n-lt2 c = short-field _ c.if-n-lt2.true

pub returns-then-field-ne34 : goal.returns-then-field-ne34
returns-then-field-ne34 c = unquoted-start _ c.if-n-lt2.false c.if-field-ne34.true

pub returns-then-field-n-ne34 : goal.returns-then-field-n-ne34
returns-then-field-n-ne34 c = unquoted-end _ c.if-n-lt2.false c.if-field-n-ne34.true

pub returns : goal.returns
returns c = quoted _ c.if-n-lt2.false c.if-field-ne34.false c.if-field-n-ne34.false
