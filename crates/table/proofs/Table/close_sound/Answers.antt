-- Shown: of a sound table the answer is the definition's close. A question answered yes leaves those after it (`yes-10` ..), and
-- a refusal is the first no among those left; a count above 60,000 no sound table has. Where no maturity ends on the day closed,
-- the fresh listing stays (`unmoved`), so the table that is kept is the one the definition relists.
use Rattle.table.proofs.Unmoved.{unmoved, none_of}
use Rattle.calendar.proofs.Closing.{close-cover}
use Rattle.expiry.proofs.Fridays.{last-but}
use Rattle.table.specs.Table.{sound, close_asks}
use Rattle.table.proofs.TableQuestions.{close-no, close-last, given-most, sound-parts}
use Rattle.questions.specs.Questions.{first_no}
use Rattle.questions.proofs.Asks.{first-yes}
use Rattle.questions.proofs.Bools.{said-no, said-yes}
use borrow.Author.Tests.{lt-ltb, le-ltb}
use native.Mathlib.Omega.{arith}
use Prim.Native.Nat.{ℕ}
use lib.ListN.{drop}
use mathlib.Core.Bool.{true}
use mathlib.Core.Path.{◌≡◌, ◌∙◌, sym}
use Rattle.table.proofs.Table.close_sound.Goals as goal
use Rattle.table.proofs.Table.close_sound.Goals.{Start, Else-self-gt60000, Else-not-in_cover, Else-day-self, Else-not-is_trading_day, Else-not-keeps_weeks}

-- ---- the yeses
-- the first k questions are answered yes: the refusal is that of the others
abbrev Passed : ℕ → Start → Type 0
Passed k s = sound s.args.self ≡ true → first_no (close_asks s.args.self s.args.day) ≡ first_no (drop k (close_asks s.args.self s.args.day))

yes-10 : (c : Else-self-gt60000) → Passed 1 (goal.at.Else-self-gt60000 c).Start
yes-10 c s = first-yes 10 _ s

yes-11 : (c : Else-not-in_cover) → Passed 2 (goal.at.Else-not-in_cover c).Start
yes-11 c s = yes-10 (goal.at.Else-not-in_cover c).Else-self-gt60000 s ∙ first-yes 11 _ (said-yes c.in_cover.ensures c.if-not-in_cover.false)

yes-13 : (c : Else-day-self) → Passed 3 (goal.at.Else-day-self c).Start
yes-13 c s = yes-11 (goal.at.Else-day-self c).Else-not-in_cover s ∙ first-yes 13 _ (lt-ltb _ _ c.if-day-self.false)

yes-14 : (c : Else-not-is_trading_day) → Passed 4 (goal.at.Else-not-is_trading_day c).Start
yes-14 c s = yes-13 (goal.at.Else-not-is_trading_day c).Else-day-self s ∙ first-yes 14 _ (said-yes c.is_trading_day.ensures c.if-not-is_trading_day.false)

yes-15 : (c : Else-not-keeps_weeks) → Passed 5 (goal.at.Else-not-keeps_weeks c).Start
yes-15 c s = yes-14 (goal.at.Else-not-keeps_weeks c).Else-not-is_trading_day s ∙
    first-yes 15 _ (said-yes (c.keeps_weeks.ensures (sound-parts _ s).weeks) c.if-not-keeps_weeks.false)

-- ---- the refusals
pub returns-then-self-gt60000 : goal.returns-then-self-gt60000
returns-then-self-gt60000 c s = absurd (omega (arith, c.if-self-gt60000.true, given-most _ s))

pub returns-then-not-in_cover : goal.returns-then-not-in_cover
returns-then-not-in_cover c s =
    c.refused-then-not-in_cover.ensures ∙ close-no _ _ 10 _ (yes-10 (goal.at.returns-then-not-in_cover c).Else-self-gt60000 s) (said-no c.in_cover.ensures c.if-not-in_cover.true)

pub returns-then-day-self : goal.returns-then-day-self
returns-then-day-self c s = c.refused-then-day-self.ensures ∙ close-no _ _ 12 _ (yes-11 (goal.at.returns-then-day-self c).Else-not-in_cover s) (le-ltb _ _ c.if-day-self.true)

pub returns-then-not-is_trading_day : goal.returns-then-not-is_trading_day
returns-then-not-is_trading_day c s =
    c.refused-then-not-is_trading_day.ensures ∙
    close-no _ _ 13 _ (yes-13 (goal.at.returns-then-not-is_trading_day c).Else-day-self s) (said-no c.is_trading_day.ensures c.if-not-is_trading_day.true)

pub returns-then-not-keeps_weeks : goal.returns-then-not-keeps_weeks
returns-then-not-keeps_weeks c s =
    let weeks = c.keeps_weeks.ensures (sound-parts _ s).weeks in
    c.refused-then-not-keeps_weeks.ensures ∙ close-no _ _ 14 _ (yes-14 (goal.at.returns-then-not-keeps_weeks c).Else-not-is_trading_day s) (said-no weeks c.if-not-keeps_weeks.true)

-- ---- no maturity ends on the day
pub returns-then-none_ends_on : goal.returns-then-none_ends_on
returns-then-none_ends_on c s =
    let none = none_of _ _ (sym c.none_ends_on.ensures ∙ c.if-none_ends_on.true) in
    (rw c.close_day-cal.ensures at c.kept.ensures.0) ∙
    sym (unmoved _ s c.kept.ensures.1 _ c.if-day-self.false none _ (close-cover _ _) (last-but _ _)) ∙
    close-last _ _ (yes-15 (goal.at.returns-then-none_ends_on c).Else-not-keeps_weeks s)

-- ---- one does
pub returns : goal.returns
returns c s =
    (rw c.close_day-cal.ensures at c.relisted.ensures) ∙ close-last _ _ (yes-15 (goal.at.returns c).Else-not-keeps_weeks s)
