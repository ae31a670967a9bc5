-- Shown: the answer is the definition's due. Each refusal (10, 11, 17) cites the yeses before it and its own no; the day that
-- `nth_exchange_day` counts, with the settlement days of the kind and group, is the due day (`due-is`).
use Rattle.table_values.proofs.DayQuestions.{due-10, due-11, due-17, due-yes, due-is}
use Rattle.questions.proofs.Bools.{said-no, said-yes}
use mathlib.Core.Path.{◌∙◌, sym}
use Rattle.table_values.proofs.due.Goals as goal

pub returns-then-not-is_sound : goal.returns-then-not-is_sound
returns-then-not-is_sound c = c.no_day.ensures ∙ sym (due-10 _ _ (said-no c.is_sound.ensures c.if-not-is_sound.true))

pub returns-then-not-in_cover : goal.returns-then-not-in_cover
returns-then-not-in_cover c = c.no_day-then-not-in_cover.ensures ∙ sym (due-11 _ _ (said-yes c.is_sound.ensures c.if-not-is_sound.false)
    (said-no c.in_cover.ensures c.if-not-in_cover.true))

pub returns-then-not-in_cover-2 : goal.returns-then-not-in_cover-2
returns-then-not-in_cover-2 c =
    let yes-is-sound = said-yes c.is_sound.ensures c.if-not-is_sound.false in
    let yes-in-cover = said-yes c.in_cover.ensures c.if-not-in_cover.false in
    c.no_day-then-not-in_cover-2.ensures ∙ sym (due-17 _ _ yes-is-sound yes-in-cover _
    (due-is _ _ _ _ c.settlement_days-n.ensures c.nth_exchange_day-due.ensures)
    (said-no c.in_cover-2.ensures c.if-not-in_cover-2.true))

pub returns : goal.returns
returns c =
    let yes-is-sound = said-yes c.is_sound.ensures c.if-not-is_sound.false in
    let yes-in-cover = said-yes c.in_cover.ensures c.if-not-in_cover.false in
    sym (due-yes _ _ yes-is-sound yes-in-cover _ (due-is _ _ _ _ c.settlement_days-n.ensures c.nth_exchange_day-due.ensures)
    (said-yes c.in_cover-2.ensures c.if-not-in_cover-2.false))
