-- Shown: the answer is the definition's measure. A question answered yes leaves those after it (`yes-10` ..), and a refusal is the
-- first no among those left. The yes to 29 says that the new size and the new price fit their types (`size_fits`, `price-fits`);
-- with five yeses the table with the new size and the new price is the definition's (`measure-yes`).
use Rattle.questions.specs.Questions.{Ask, first_no}
use Rattle.questions.proofs.Asks.{no-asks, first-yes}
use Rattle.questions.proofs.Bools.{said-no, said-yes}
use Rattle.table_measures.specs.Measures.{measure_asks}
use Rattle.table_measures.proofs.MeasureQuestions.{measure-no, measure-yes, size_fits, price-fits}
use Prim.Native.Nat.{ℕ}
use lib.ListN.{drop}
use mathlib.Core.List.{List}
use mathlib.Core.Path.{◌≡◌, refl, ◌∙◌}
use Rattle.table_measures.proofs.measure.Goals as goal
use Rattle.table_measures.proofs.measure.Goals.{Start, Else-not-is_sound, Else-not-price_right, Else-not-is_future, Else-not-ratio_right}

-- ---- the yeses
abbrev asks : Start → List Ask
asks s = measure_asks s.args.t s.args.p s.args.q s.args.price

-- the first k questions are answered yes: the refusal is that of the others
abbrev Passed : ℕ → Start → Type 0
Passed k s = first_no (asks s) ≡ first_no (drop k (asks s))

yes-10 : (c : Else-not-is_sound) → Passed 1 c.before.before
unfolding measure_asks
yes-10 c = first-yes 10 _ (said-yes c.is_sound.ensures c.if-not-is_sound.false)

yes-19 : (c : Else-not-price_right) → Passed 2 c.before.before.before.before
unfolding measure_asks
yes-19 c = yes-10 (goal.at.Else-not-price_right c).Else-not-is_sound ∙ first-yes 19 _ (said-yes c.price_right.ensures c.if-not-price_right.false)

yes-21 : (c : Else-not-is_future) → Passed 3 c.before.before.before.before.before.before.before
unfolding measure_asks
yes-21 c = yes-19 (goal.at.Else-not-is_future c).Else-not-price_right ∙ first-yes 21 _ (said-yes c.is_future.ensures c.if-not-is_future.false)

yes-28 : (c : Else-not-ratio_right) → Passed 4 c.before.before.before.before.before.before.before.before.before
unfolding measure_asks
yes-28 c = yes-21 (goal.at.Else-not-ratio_right c).Else-not-is_future ∙ first-yes 28 _ (said-yes c.ratio_right.ensures c.if-not-ratio_right.false)

-- ---- the refusals
pub returns-then-not-is_sound : goal.returns-then-not-is_sound
unfolding measure_asks
returns-then-not-is_sound c = c.refused.ensures ∙ measure-no _ _ _ _ 9 _ refl (said-no c.is_sound.ensures c.if-not-is_sound.true)

pub returns-then-not-price_right : goal.returns-then-not-price_right
unfolding measure_asks
returns-then-not-price_right c =
    c.refused-then-not-price_right.ensures ∙
    measure-no _ _ _ _ 18 _ (yes-10 (goal.at.returns-then-not-price_right c).Else-not-is_sound) (said-no c.price_right.ensures c.if-not-price_right.true)

pub returns-then-not-is_future : goal.returns-then-not-is_future
unfolding measure_asks
returns-then-not-is_future c =
    c.refused-then-not-is_future.ensures ∙
    measure-no _ _ _ _ 20 _ (yes-19 (goal.at.returns-then-not-is_future c).Else-not-price_right) (said-no c.is_future.ensures c.if-not-is_future.true)

pub returns-then-not-ratio_right : goal.returns-then-not-ratio_right
unfolding measure_asks
returns-then-not-ratio_right c =
    c.refused-then-not-ratio_right.ensures ∙
    measure-no _ _ _ _ 27 _ (yes-21 (goal.at.returns-then-not-ratio_right c).Else-not-is_future) (said-no c.ratio_right.ensures c.if-not-ratio_right.true)

pub returns-then-not-measure_right : goal.returns-then-not-measure_right
unfolding measure_asks
returns-then-not-measure_right c =
    c.refused-then-not-measure_right.ensures ∙
    measure-no _ _ _ _ 28 _ (yes-28 (goal.at.returns-then-not-measure_right c).Else-not-ratio_right) (said-no c.measure_right.ensures c.if-not-measure_right.true)

-- ---- the new size and the new price fit
pub overflow_cast-changed : goal.overflow_cast-changed
overflow_cast-changed c =
    let yes-measure = said-yes c.measure_right.ensures c.if-not-measure_right.false in
    record { fits = size_fits _ _ _ _ yes-measure _ c.new_size-changed.ensures }

pub overflow_cast-moved : goal.overflow_cast-moved
overflow_cast-moved c =
    let yes-measure = said-yes c.measure_right.ensures c.if-not-measure_right.false in
    record { fits = price-fits _ _ _ _ yes-measure _ _ c.new_size-changed.ensures c.new_price-moved.ensures }

-- ---- the answer
pub returns : goal.returns
unfolding measure_asks
returns c =
    let yes-measure = said-yes c.measure_right.ensures c.if-not-measure_right.false in
    let asked = yes-28 (goal.at.returns c).Else-not-ratio_right ∙ first-yes 29 _ yes-measure ∙ no-asks in
    measure-yes _ _ _ _ _ _ _ asked c.new_size-changed.ensures c.resize.ensures c.new_price-moved.ensures
