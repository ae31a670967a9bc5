-- Shown: of a sound table the answer is the definition's roll. A question answered yes leaves those after it (`yes-10` ..), and
-- a refusal is the first no among those left; a count above 60,000 no sound table has. Where the front on the date is the key in
-- the first place, the listing is the same (`stays`), so the table that is kept is the one the definition relists.
use Rattle.table.proofs.TableQuestions.{roll-no, roll-last, given-most}
use Rattle.table.proofs.Staying.{stays}
use Rattle.table.specs.Table.{sound, roll_asks}
use Rattle.questions.specs.Questions.{first_no}
use Rattle.questions.proofs.Asks.{first-yes}
use Rattle.questions.proofs.Bools.{said-no, said-yes}
use borrow.Author.Tests.{le-leb, lt-leb}
use native.Mathlib.Omega.{arith}
use Prim.Native.Nat.{ℕ}
use lib.ListN.{drop}
use mathlib.Core.Bool.{true}
use mathlib.Core.Path.{◌≡◌, ◌∙◌, sym}
use Rattle.table.proofs.Table.roll_sound.Goals as goal
use Rattle.table.proofs.Table.roll_sound.Goals.{Start, Else-self-gt60000, Else-not-in_cover, Else-date-self}

-- ---- the yeses
-- the first k questions are answered yes: the refusal is that of the others
abbrev Passed : ℕ → Start → Type 0
Passed k s = sound s.args.self ≡ true → first_no (roll_asks s.args.self s.args.date) ≡ first_no (drop k (roll_asks s.args.self s.args.date))

yes-10 : (c : Else-self-gt60000) → Passed 1 (goal.at.Else-self-gt60000 c).Start
yes-10 c s = first-yes 10 _ s

yes-11 : (c : Else-not-in_cover) → Passed 2 (goal.at.Else-not-in_cover c).Start
yes-11 c s = yes-10 (goal.at.Else-not-in_cover c).Else-self-gt60000 s ∙ first-yes 11 _ (said-yes c.in_cover.ensures c.if-not-in_cover.false)

yes-12 : (c : Else-date-self) → Passed 3 (goal.at.Else-date-self c).Start
yes-12 c s = yes-11 (goal.at.Else-date-self c).Else-not-in_cover s ∙ first-yes 12 _ (le-leb _ _ c.if-date-self.false)

-- ---- the refusals
pub returns-then-self-gt60000 : goal.returns-then-self-gt60000
returns-then-self-gt60000 c s = absurd (omega (arith, c.if-self-gt60000.true, given-most _ s))

pub returns-then-not-in_cover : goal.returns-then-not-in_cover
returns-then-not-in_cover c s =
    c.refused-then-not-in_cover.ensures ∙ roll-no _ _ 10 _ (yes-10 (goal.at.returns-then-not-in_cover c).Else-self-gt60000 s) (said-no c.in_cover.ensures c.if-not-in_cover.true)

pub returns-then-date-self : goal.returns-then-date-self
returns-then-date-self c s = c.refused-then-date-self.ensures ∙ roll-no _ _ 11 _ (yes-11 (goal.at.returns-then-date-self c).Else-not-in_cover s) (lt-leb _ _ c.if-date-self.true)

-- ---- the front stays
pub returns-then-front_stays : goal.returns-then-front_stays
returns-then-front_stays c s =
    c.kept.ensures.0 ∙ sym (stays _ s c.kept.ensures.1 _ (sym c.front_stays.ensures ∙ c.if-front_stays.true))
    ∙ roll-last _ _ (yes-12 (goal.at.returns-then-front_stays c).Else-date-self s)

-- ---- the front moves
pub returns : goal.returns
returns c s = c.relisted.ensures ∙ roll-last _ _ (yes-12 (goal.at.returns c).Else-date-self s)
