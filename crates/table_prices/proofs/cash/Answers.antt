-- Shown: the answer is the definition's cash. A question answered yes leaves those after it (`yes-10` ..), and a refusal is the
-- first no among those left; 22 asks for the final price and the contracts at once (`both-are`). After five yeses the answer is
-- what `amounts::cash` gives.
use Rattle.table_prices.specs.TablePrices.{cash_asks}
use Rattle.table_prices.proofs.PriceQuestions.{cash-no, cash-yes, both-are}
use Rattle.questions.specs.Questions.{Ask, first_no}
use Rattle.questions.proofs.Asks.{no-asks, first-yes}
use Rattle.questions.proofs.Bools.{said-no, said-yes}
use Prim.Native.Nat.{ℕ}
use mathlib.Core.List.{List}
use lib.ListN.{drop}
use mathlib.Core.Path.{◌≡◌, refl, ◌∙◌}
use Rattle.table_prices.proofs.cash.Goals as goal
use Rattle.table_prices.proofs.cash.Goals.{Start, Else-not-is_sound, Else-not-price_right, Else-not-is_multiple, Else-not-is_future}

-- ---- the yeses
abbrev asks : Start → List Ask
asks s = cash_asks s.args.t s.args.contracts s.args.agreed s.args.final_price

-- the first k questions are answered yes: the refusal is that of the others
abbrev Passed : ℕ → Start → Type 0
Passed k s = first_no (asks s) ≡ first_no (drop k (asks s))

yes-10 : (c : Else-not-is_sound) → Passed 1 (goal.at.Else-not-is_sound c).Start
unfolding cash_asks
yes-10 c = first-yes 10 _ (said-yes c.is_sound.ensures c.if-not-is_sound.false)

yes-19 : (c : Else-not-price_right) → Passed 2 (goal.at.Else-not-price_right c).Start
unfolding cash_asks
yes-19 c = yes-10 (goal.at.Else-not-price_right c).Else-not-is_sound ∙ first-yes 19 _ (said-yes c.price_right.ensures c.if-not-price_right.false)

yes-20 : (c : Else-not-is_multiple) → Passed 3 (goal.at.Else-not-is_multiple c).Start
unfolding cash_asks
yes-20 c = yes-19 (goal.at.Else-not-is_multiple c).Else-not-price_right ∙ first-yes 20 _ (said-yes c.is_multiple.ensures c.if-not-is_multiple.false)

yes-21 : (c : Else-not-is_future) → Passed 4 (goal.at.Else-not-is_future c).Start
unfolding cash_asks
yes-21 c = yes-20 (goal.at.Else-not-is_future c).Else-not-is_multiple ∙ first-yes 21 _ (said-yes c.is_future.ensures c.if-not-is_future.false)

-- ---- the refusals
pub returns-then-not-is_sound : goal.returns-then-not-is_sound
unfolding cash_asks
returns-then-not-is_sound c = c.no_cash.ensures ∙ cash-no _ _ _ _ 9 _ refl (said-no c.is_sound.ensures c.if-not-is_sound.true)

pub returns-then-not-price_right : goal.returns-then-not-price_right
unfolding cash_asks
returns-then-not-price_right c =
    c.no_cash-then-not-price_right.ensures ∙
    cash-no _ _ _ _ 18 _ (yes-10 (goal.at.returns-then-not-price_right c).Else-not-is_sound) (said-no c.price_right.ensures c.if-not-price_right.true)

pub returns-then-not-is_multiple : goal.returns-then-not-is_multiple
unfolding cash_asks
returns-then-not-is_multiple c =
    c.no_cash-then-not-is_multiple.ensures ∙
    cash-no _ _ _ _ 19 _ (yes-19 (goal.at.returns-then-not-is_multiple c).Else-not-price_right) (said-no c.is_multiple.ensures c.if-not-is_multiple.true)

pub returns-then-not-is_future : goal.returns-then-not-is_future
unfolding cash_asks
returns-then-not-is_future c =
    c.no_cash-then-not-is_future.ensures ∙
    cash-no _ _ _ _ 20 _ (yes-20 (goal.at.returns-then-not-is_future c).Else-not-is_multiple) (said-no c.is_future.ensures c.if-not-is_future.true)

pub returns-then-not-final_right-contracts_right : goal.returns-then-not-final_right-contracts_right
unfolding cash_asks
returns-then-not-final_right-contracts_right c =
    let last = both-are c.final_right.ensures c.contracts_right.ensures in
    c.no_cash-then-not-final_right-contracts_right.ensures ∙ cash-no _ _ _ _ 21 _
    (yes-21 (goal.at.returns-then-not-final_right-contracts_right c).Else-not-is_future) (said-no last c.if-not-final_right-contracts_right.true)

-- ---- the cash
pub returns : goal.returns
unfolding cash_asks
returns c =
    let last = both-are c.final_right.ensures c.contracts_right.ensures in
    cash-yes _ _ _ _ (yes-21 (goal.at.returns c).Else-not-is_future ∙ first-yes 22 _ (said-yes last c.if-not-final_right-contracts_right.false) ∙ no-asks) _ c.cash-cash.ensures
