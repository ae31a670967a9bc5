-- `maturity_read` reads a field of 7 bytes as a month (`maturity-month`) and another as a date (`maturity-friday`).
use mathlib.Core.Path.{◌∙◌}
use Rattle.delivery_items.proofs.ItemForms.{maturity-month, maturity-friday}
use Rattle.delivery_items.proofs.maturity_read.Goals as goal

pub returns-then-field-eq7 : goal.returns-then-field-eq7
returns-then-field-eq7 c = c.month_in.ensures ∙ maturity-month _ c.if-field-eq7.true

pub returns : goal.returns
returns c = c.date_in.ensures ∙ maturity-friday _ c.if-field-eq7.false
