-- Shown: the number is that of the first question of tick answered no, or 0: a question answered yes leaves those after it
-- (`yes-10`, `yes-19`), and each `return` is the first no among those left, or none.
use Rattle.table_prices.specs.TablePrices.{tick_asks, tick_call}
use Rattle.questions.specs.Questions.{first_no}
use Rattle.questions.proofs.Asks.{no-asks, first-yes, first-no}
use Rattle.questions.proofs.Bools.{said-no, said-yes}
use Prim.Native.Nat.{ℕ}
use lib.ListN.{drop}
use mathlib.Core.Path.{◌≡◌, ◌∙◌, sym}
use Rattle.table_prices.proofs.tick.Goals as goal
use Rattle.table_prices.proofs.tick.Goals.{Start, Else-not-is_sound, Else-not-price_right}

-- the first k questions are answered yes: the refusal is that of the others
abbrev Passed : ℕ → Start → Type 0
Passed k s = tick_call s.args.t s.args.price ≡ first_no (drop k (tick_asks s.args.t s.args.price))

yes-10 : (c : Else-not-is_sound) → Passed 1 (goal.at.Else-not-is_sound c).Start
unfolding tick_call
yes-10 c = first-yes 10 _ (said-yes c.is_sound.ensures c.if-not-is_sound.false)

yes-19 : (c : Else-not-price_right) → Passed 2 (goal.at.Else-not-price_right c).Start
yes-19 c = yes-10 (goal.at.Else-not-price_right c).Else-not-is_sound ∙ first-yes 19 _ (said-yes c.price_right.ensures c.if-not-price_right.false)

pub returns-then-not-is_sound : goal.returns-then-not-is_sound
unfolding tick_call
returns-then-not-is_sound c = sym (first-no 10 _ (said-no c.is_sound.ensures c.if-not-is_sound.true))

pub returns-then-not-price_right : goal.returns-then-not-price_right
returns-then-not-price_right c = sym (yes-10 (goal.at.returns-then-not-price_right c).Else-not-is_sound ∙ first-no 19 _ (said-no c.price_right.ensures c.if-not-price_right.true))

pub returns-then-not-is_multiple : goal.returns-then-not-is_multiple
returns-then-not-is_multiple c =
    sym (yes-19 (goal.at.returns-then-not-is_multiple c).Else-not-price_right ∙ first-no 20 _ (said-no c.is_multiple.ensures c.if-not-is_multiple.true))

pub returns : goal.returns
returns c = sym (yes-19 (goal.at.returns c).Else-not-price_right ∙ first-yes 20 _ (said-yes c.is_multiple.ensures c.if-not-is_multiple.false) ∙ no-asks)
