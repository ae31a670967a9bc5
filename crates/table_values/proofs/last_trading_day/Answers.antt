-- Shown: the answer is the definition's last trading day with the days stepped back. Refusals 10 and 18 cite the yeses
-- before them and their own no; after two yeses it is the day that `expiry` works out (`last-day-yes`).
use Rattle.table_values.proofs.DayQuestions.{last-day-10, last-day-18, last-day-yes}
use Rattle.questions.proofs.Bools.{said-no, said-yes}
use mathlib.Core.Path.{◌∙◌, sym}
use Rattle.table_values.proofs.last_trading_day.Goals as goal

pub returns-then-not-is_sound : goal.returns-then-not-is_sound
returns-then-not-is_sound c = c.no_last_day.ensures ∙ sym (last-day-10 _ _ (said-no c.is_sound.ensures c.if-not-is_sound.true))

pub returns-then-not-is_listed : goal.returns-then-not-is_listed
returns-then-not-is_listed c = c.no_last_day-then-not-is_listed.ensures ∙
    sym (last-day-18 _ _ (said-yes c.is_sound.ensures c.if-not-is_sound.false)
    (said-no c.is_listed.ensures c.if-not-is_listed.true))

pub returns : goal.returns
returns c =
    let yes-is-sound = said-yes c.is_sound.ensures c.if-not-is_sound.false in
    let yes-is-listed = said-yes c.is_listed.ensures c.if-not-is_listed.false in
    sym (last-day-yes _ _ yes-is-sound yes-is-listed _ c.last_trading_day-last.ensures)
