-- Shown: the answer is the definition's reopening of a day. A question answered yes leaves those after it (`yes-10` ..), and a
-- refusal is the first no among those left. Of a sound table the key in the first place is the front, so `front_stays` answers 27
-- (`front`); after five yeses the definition's answer is the table relisted with the day open (`reopen-yes`).
use Rattle.table.proofs.Reopened.{stays, stays-is, reopen-no, reopen-yes}
use Rattle.table.proofs.TableQuestions.{given-most}
use Rattle.table.specs.Table.{sound, reopen_asks}
use Rattle.questions.specs.Questions.{first_no}
use Rattle.questions.proofs.Asks.{first-yes}
use Rattle.questions.proofs.Bools.{said-no, said-yes}
use borrow.Author.Tests.{lt-ltb, le-ltb}
use Prim.Native.Nat.{ℕ}
use lib.ListN.{drop}
use mathlib.Core.Bool.{Bool, true}
use mathlib.Core.Path.{◌≡◌, refl, ◌∙◌}
use Rattle.table.proofs.Table.reopen.Goals as goal
use Rattle.table.proofs.Table.reopen.Goals.{Start, Else-not-is_sound, Else-not-in_cover, Else-day-self, Else-not-is_closed_weekday, After-front_stays}

-- ---- the yeses
-- the first k questions are answered yes: the refusal is that of the others
abbrev Passed : ℕ → Start → Type 0
Passed k s = first_no (reopen_asks s.args.self s.args.day) ≡ first_no (drop k (reopen_asks s.args.self s.args.day))

is-sound : (c : Else-not-is_sound) → sound c.args.self ≡ true
is-sound c = said-yes c.is_sound.ensures c.if-not-is_sound.false

yes-10 : (c : Else-not-is_sound) → Passed 1 (goal.at.Else-not-is_sound c).Start
yes-10 c = first-yes 10 _ (is-sound c)

yes-11 : (c : Else-not-in_cover) → Passed 2 (goal.at.Else-not-in_cover c).Start
yes-11 c = yes-10 (goal.at.Else-not-in_cover c).Else-not-is_sound ∙ first-yes 11 _ (said-yes c.in_cover.ensures c.if-not-in_cover.false)

yes-13 : (c : Else-day-self) → Passed 3 (goal.at.Else-day-self c).Start
yes-13 c = yes-11 (goal.at.Else-day-self c).Else-not-in_cover ∙ first-yes 13 _ (lt-ltb _ _ c.if-day-self.false)

yes-26 : (c : Else-not-is_closed_weekday) → Passed 4 (goal.at.Else-not-is_closed_weekday c).Start
yes-26 c = yes-13 (goal.at.Else-not-is_closed_weekday c).Else-day-self ∙ first-yes 26 _ (said-yes c.is_closed_weekday.ensures c.if-not-is_closed_weekday.false)

-- the code compares the key in the first place, which is the front
abbrev asked : Start → Bool
asked s = stays s.args.self s.args.day

front : (c : After-front_stays) → c.front_stays.result ≡ asked (goal.at.After-front_stays c).Start
front c =
    stays-is _ _ (is-sound (goal.at.After-front_stays c).Else-not-is_sound) _ (rw c.reopen_day-cal.ensures at c.front_stays.ensures)

-- ---- the refusals
pub returns-then-not-is_sound : goal.returns-then-not-is_sound
returns-then-not-is_sound c = c.refused.ensures ∙ reopen-no _ _ 9 _ refl (said-no c.is_sound.ensures c.if-not-is_sound.true)

pub returns-then-not-in_cover : goal.returns-then-not-in_cover
returns-then-not-in_cover c =
    c.refused-then-not-in_cover.ensures ∙ reopen-no _ _ 10 _ (yes-10 (goal.at.returns-then-not-in_cover c).Else-not-is_sound) (said-no c.in_cover.ensures c.if-not-in_cover.true)

pub returns-then-day-self : goal.returns-then-day-self
returns-then-day-self c = c.refused-then-day-self.ensures ∙ reopen-no _ _ 12 _ (yes-11 (goal.at.returns-then-day-self c).Else-not-in_cover) (le-ltb _ _ c.if-day-self.true)

pub returns-then-not-is_closed_weekday : goal.returns-then-not-is_closed_weekday
returns-then-not-is_closed_weekday c =
    c.refused-then-not-is_closed_weekday.ensures ∙
    reopen-no _ _ 25 _ (yes-13 (goal.at.returns-then-not-is_closed_weekday c).Else-day-self) (said-no c.is_closed_weekday.ensures c.if-not-is_closed_weekday.true)

pub returns-then-not-front_stays : goal.returns-then-not-front_stays
returns-then-not-front_stays c =
    let at = goal.at.returns-then-not-front_stays c in
    c.refused-then-not-front_stays.ensures ∙ reopen-no _ _ 26 _ (yes-26 at.Else-not-is_closed_weekday) (said-no (front at.After-front_stays) c.if-not-front_stays.true)

-- ---- the day is opened again
pub relisted-requires : goal.relisted-requires
relisted-requires c = given-most _ (is-sound (goal.at.relisted-requires c).Else-not-is_sound)

pub returns : goal.returns
returns c =
    let at = goal.at.returns c in
    (rw c.reopen_day-cal.ensures at c.relisted.ensures) ∙
    reopen-yes _ _ (is-sound at.Else-not-is_sound) (said-yes (front at.After-front_stays) c.if-not-front_stays.false) (yes-26 at.Else-not-is_closed_weekday)
