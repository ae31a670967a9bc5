-- Shown: the command is an open or another line, as the definition says. Another line is too short, or not of the form, or has
-- no date: each `return` cites its test. The form says that k is at most 4 (`open-most`), so the date is within the line;
-- with all of them it is the open of the id and the day (`open_is`).
use Rattle.session_lines.proofs.CommandForms.{open-short, open-formless, open-most, open-dateless, open_is}
use Rattle.questions.proofs.Bools.{said-no, said-yes}
use borrow.Author.Tests.{not-true, not-false}
use mathlib.Core.Path.{◌∙◌}
use native.Mathlib.Omega.{arith}
use Rattle.session_lines.proofs.open_command.Goals as goal

pub returns-then-length-lt13 : goal.returns-then-length-lt13
returns-then-length-lt13 c = c.other_line.ensures ∙ open-short _ _ c.if-length-lt13.true

pub returns-then-not-is_open_form : goal.returns-then-not-is_open_form
returns-then-not-is_open_form c = c.other_line-then-not-is_open_form.ensures ∙ open-formless _ _ (said-no c.is_open_form.ensures c.if-not-is_open_form.true)

pub date_at-date-requires : goal.date_at-date-requires
date_at-date-requires c = omega (arith, open-most _ _ (said-yes c.is_open_form.ensures c.if-not-is_open_form.false))

pub returns-then-not-date : goal.returns-then-not-date
returns-then-not-date c =
    let at-date-at = c.before.before.before in
    let at-if2 = at-date-at.before in
    let at-is-open-form = at-if2 in
    let yes-is-open-form = said-yes at-is-open-form.is_open_form.ensures at-if2.if-not-is_open_form.false in
    c.other_line-then-not-date.ensures ∙ open-dateless _ _ yes-is-open-form _ at-date-at.date_at-date.ensures (not-true _ c.if-not-date.true)

pub returns : goal.returns
returns c =
    let at-date-at = c.before.before.before in
    let at-if2 = at-date-at.before in
    let at-is-open-form = at-if2 in
    let yes-is-open-form = said-yes at-is-open-form.is_open_form.ensures at-if2.if-not-is_open_form.false in
    open_is _ _ yes-is-open-form _ at-date-at.date_at-date.ensures _ c.id_in_line-id.ensures (not-false _ c.if-not-date.false)
