-- Each refusal is that of the first question answered no: one answered yes leaves those after it (`yes-8` ..). An accepted one has
-- the product and the listing of the definition.
use Prim.Native.Nat.{ℕ}
use mathlib.Core.Path.{◌≡◌, refl, ◌∙◌}
use mathlib.Core.List.{List, []}
use lib.ListN.{drop}
use borrow.Author.Tests.{eq-eqb, not-true, not-false}
use Rattle.questions.specs.Questions.{Ask, first_no}
use Rattle.questions.proofs.Asks.{no-asks, first-yes, first-no}
use Rattle.questions.proofs.Bools.{said-no, said-yes}
use Rattle.listing.proofs.Fresh.{complete-is}
use Rattle.listing.proofs.SecondMap.{listing-second}
use Rattle.file_calendar.specs.Calendars.{calendar_answer}
use Rattle.file_load.specs.Halves.{product_by_halves}
use Rattle.file_calendar.specs.declared.FileCalendar.{FileCalendar}
use Rattle.table_opening.specs.Opening.{asks_in}
use Rattle.table_opening.proofs.Opened.{find-there, find-product, find_none, listed-no, listed-refused, listed-yes}
use Rattle.table_opening.proofs.listed_in.Goals as goal
use Rattle.table_opening.proofs.listed_in.Goals.{Else-refusal-ne0, After-in_cover, Else-not-in_cover, After-product_at-product, Else-not-is_week_into_cover}

-- ---- the yeses
abbrev asks : FileCalendar → List ℕ → List ℕ → ℕ → List Ask
asks judged file id date = asks_in (calendar_answer judged) file id date

-- the verdict and the first questions after it are answered yes: the refusal is that of the others
abbrev Passed : ℕ → List Ask → Type 0
Passed k asked = first_no asked ≡ first_no (drop k asked)

yes-8 : (c : Else-refusal-ne0) → Passed 1 (asks c.args.judged c.args.file.now c.args.id c.args.date)
unfolding asks_in
yes-8 c = first-yes _ _ (eq-eqb _ _ c.if-refusal-ne0.false)

yes-9 : (c : After-in_cover) → Passed 2 (asks c.args.judged c.args.file.now c.args.id c.args.date)
unfolding asks_in
yes-9 c =
    yes-8 (goal.at.After-in_cover c).Else-refusal-ne0 ∙ first-yes 9 _ (find-there _ _ _ _ (rw c.in-At.is at c.find_rising.ensures))

yes-11 : (c : Else-not-in_cover) → Passed 3 (asks c.args.judged c.args.file.now c.args.id c.args.date)
unfolding asks_in
yes-11 c = yes-9 (goal.at.Else-not-in_cover c).After-in_cover ∙ first-yes 11 _ (said-yes c.in_cover.ensures c.if-not-in_cover.false)

-- the product is that of the place found
product : (c : After-product_at-product) → c.product_at-product.result ≡ product_by_halves c.args.file.now c.args.id
product c =
    c.product_at-product.ensures ∙ find-product _ _ _ _ (rw c.in-At.is at c.find_rising.ensures)

yes-24 : (c : Else-not-is_week_into_cover) → Passed 4 (asks c.args.judged c.args.file.now c.args.id c.args.date)
unfolding asks_in
yes-24 c =
    yes-11 (goal.at.Else-not-is_week_into_cover c).Else-not-in_cover ∙ first-yes 24 _ (rw
    (product (goal.at.Else-not-is_week_into_cover c).After-product_at-product) at (said-yes c.is_week_into_cover.ensures c.if-not-is_week_into_cover.false))

-- ---- the refusals
pub returns-then-refusal-ne0 : goal.returns-then-refusal-ne0
returns-then-refusal-ne0 c = listed-refused _ _ _ _ _ refl c.if-refusal-ne0.true

pub returns-in_default : goal.returns-in_default
unfolding asks_in
returns-in_default c =
    let said = find_none _ _ (rw c.in_default.is at c.find_rising.ensures) in
    rw c.number.ensures (listed-no _ _ _ _ 8 (yes-8 (goal.at.returns-in_default c).Else-refusal-ne0 ∙ first-no 9 _ said))

pub returns-then-not-in_cover : goal.returns-then-not-in_cover
unfolding asks_in
returns-then-not-in_cover c =
    let said = said-no c.in_cover.ensures c.if-not-in_cover.true in
    rw c.number-then-not-in_cover.ensures (listed-no _ _ _ _ 10 (yes-9 (goal.at.returns-then-not-in_cover c).After-in_cover ∙ first-no 11 _ said))

pub returns-then-not-is_week_into_cover : goal.returns-then-not-is_week_into_cover
unfolding asks_in
returns-then-not-is_week_into_cover c =
    let said = rw (product (goal.at.returns-then-not-is_week_into_cover c).After-product_at-product) at (said-no c.is_week_into_cover.ensures c.if-not-is_week_into_cover.true) in
    rw c.number-then-not-is_week_into_cover.ensures (listed-no _ _ _ _ 23 (yes-11 (goal.at.returns-then-not-is_week_into_cover c).Else-not-in_cover ∙ first-no 24 _ said))

-- ---- the listing
pub returns-then-not-l : goal.returns-then-not-l
unfolding asks_in
returns-then-not-l c =
    let l = rw (product (goal.at.returns-then-not-l c).After-product_at-product) at (c.list_in-l.ensures ∙ listing-second c.args.judged.calendar [] _ _ _) in
    rw c.number-then-not-l.ensures (listed-no _ _ _ _ 15 (yes-24 (goal.at.returns-then-not-l c).Else-not-is_week_into_cover ∙
    first-no 16 _ (said-no (complete-is _ _ _ _ _ l) (not-true _ c.if-not-l.true))))

pub returns : goal.returns
unfolding asks_in
returns c =
    let p = product (goal.at.returns c).After-product_at-product in
    let l = rw p at (c.list_in-l.ensures ∙ listing-second c.args.judged.calendar [] _ _ _) in
    rw (p, l) (listed-yes _ _ _ _ (yes-24 (goal.at.returns c).Else-not-is_week_into_cover ∙
    first-yes 16 _ (said-yes (complete-is _ _ _ _ _ l) (not-false _ c.if-not-l.false)) ∙ no-asks))
