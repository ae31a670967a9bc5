-- The state after a line is that of the definition.
-- Six returns, one for each sort of line, each citing the tests before it: after a row too many, empty, heading, bad, good, one too many.
use mathlib.Core.Path.{◌∙◌}
use Rattle.delivery_receipts.proofs.RowsSoFar.{is-ended, is-empty, is-heading, is-bad, is_row, is-too-many}
use Rattle.delivery_receipts.proofs.receive.Goals as goal

pub returns-then-s : goal.returns-then-s
returns-then-s c = c.received.ensures ∙ is-ended _ _ _ _ c.if-s.true

pub returns-then-read : goal.returns-then-read
returns-then-read c = c.received-then-read.ensures ∙ is-empty _ _ _ _ _ c.next_line-lines.ensures c.if-s.false c.if-read.true

pub returns-then-s-read : goal.returns-then-s-read
returns-then-s-read c = c.received-then-s-read.ensures ∙ is-heading _ _ _ _ _ c.next_line-lines.ensures c.if-s.false
    c.if-read.false c.if-s-read.true

pub returns-then-not-item-form_fits : goal.returns-then-not-item-form_fits
returns-then-not-item-form_fits c = c.received-then-not-item-form_fits.ensures ∙ is-bad _ _ _ _ _ c.next_line-lines.ensures
    c.if-s.false
    c.if-read.false c.if-s-read.false _
    c.form_fits.ensures c.if-not-item-form_fits.true

pub returns-then-s-room : goal.returns-then-s-room
returns-then-s-room c = c.received-then-s-room.ensures ∙ is_row _ _ _ _ _ c.next_line-lines.ensures
    c.if-s.false
    c.if-read.false
    c.if-s-read.false _ c.form_fits.ensures
    c.if-not-item-form_fits.false c.if-s-room.true

pub returns : goal.returns
returns c = c.received-2.ensures ∙ is-too-many _ _ _ _ _ c.next_line-lines.ensures
    c.if-s.false
    c.if-read.false c.if-s-read.false _
    c.form_fits.ensures c.if-not-item-form_fits.false c.if-s-room.false
