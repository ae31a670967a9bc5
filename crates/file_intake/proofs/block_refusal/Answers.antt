-- The number of the first of questions 2 to 8 that the next block answers no, 0 where there is none.
-- A question answered yes leaves those after it (`yes-2` ..); a `return` is the first no among those left, or none.
-- The tests of 2 and 7 ask for 512 bytes too, which the requirement gives (of-block).
use Prim.Native.Nat.{ℕ}
use mathlib.Core.Path.{◌≡◌, ◌∙◌, sym}
use mathlib.Core.Bool.{not, ◌||◌}
use mathlib.Core.List.{List}
use lib.ListN.{drop}
use Rattle.questions.specs.Questions.{first_no}
use Rattle.questions.proofs.Asks.{no-asks, first-yes, first-no}
use Rattle.questions.proofs.Bools.{said-no, said-yes}
use Rattle.file_blocks.specs.Blocks.{check_right, is_products}
use Rattle.file_records.specs.Records.{records_right}
use Rattle.file_intake.specs.declared.Intake.{Intake}
use Rattle.file_intake.specs.Intake.{ids_go_on, block_asks}
use Rattle.file_intake.proofs.Steps.{of-block}
use Rattle.file_intake.proofs.block_refusal.Goals as goal
use Rattle.file_intake.proofs.block_refusal.Goals.{After-block_check_right, Else-not-block_check_right, Else-not-block_header_right}
use Rattle.file_intake.proofs.block_refusal.Goals.{Else-not-in_turn, Else-not-calendar_clean, Else-not-weeks_go_on, After-block_records_right, Else-not-block_records_right}

-- ---- the yeses
-- the first k questions are answered yes: the refusal is that of the others
abbrev Passed : ℕ → Intake → List ℕ → Type 0
Passed k s b = first_no (block_asks s b) ≡ first_no (drop k (block_asks s b))

-- what the test of 2 says
check : (c : After-block_check_right) → c.block_check_right.result ≡ check_right c.args.b.now
check c = of-block c.args.b.now c.requires.2 c.block_check_right.ensures

yes-2 : (c : Else-not-block_check_right) → Passed 1 c.args.s c.args.b.now
unfolding block_asks
yes-2 c = first-yes 2 _ (said-yes (check (goal.at.Else-not-block_check_right c).After-block_check_right) c.if-not-block_check_right.false)

yes-3 : (c : Else-not-block_header_right) → Passed 2 c.args.s c.args.b.now
unfolding block_asks
yes-3 c = yes-2 (goal.at.Else-not-block_header_right c).Else-not-block_check_right ∙ first-yes 3 _ (said-yes c.block_header_right.ensures c.if-not-block_header_right.false)

yes-4 : (c : Else-not-in_turn) → Passed 3 c.args.s c.args.b.now
unfolding block_asks
yes-4 c = yes-3 (goal.at.Else-not-in_turn c).Else-not-block_header_right ∙ first-yes 4 _ (said-yes c.in_turn.ensures c.if-not-in_turn.false)

yes-5 : (c : Else-not-calendar_clean) → Passed 4 c.args.s c.args.b.now
unfolding block_asks
yes-5 c = yes-4 (goal.at.Else-not-calendar_clean c).Else-not-in_turn ∙ first-yes 5 _ (said-yes c.calendar_clean.ensures c.if-not-calendar_clean.false)

yes-6 : (c : Else-not-weeks_go_on) → Passed 5 c.args.s c.args.b.now
unfolding block_asks
yes-6 c = yes-5 (goal.at.Else-not-weeks_go_on c).Else-not-calendar_clean ∙ first-yes 6 _ (said-yes c.weeks_go_on.ensures c.if-not-weeks_go_on.false)

-- what the test of 7 says
records : (c : After-block_records_right) → c.block_records_right.result ≡ (not (is_products c.args.b.now) || records_right c.args.b.now)
records c = of-block c.args.b.now c.requires.2 c.block_records_right.ensures

yes-7 : (c : Else-not-block_records_right) → Passed 6 c.args.s c.args.b.now
unfolding block_asks
yes-7 c = yes-6 (goal.at.Else-not-block_records_right c).Else-not-weeks_go_on ∙
    first-yes 7 _ (said-yes (records (goal.at.Else-not-block_records_right c).After-block_records_right) c.if-not-block_records_right.false)

-- ---- the refusals 2 to 4
pub returns-then-not-block_check_right : goal.returns-then-not-block_check_right
unfolding block_asks
returns-then-not-block_check_right c = sym (first-no 2 _ (said-no (check (goal.at.returns-then-not-block_check_right c).After-block_check_right) c.if-not-block_check_right.true))

pub returns-then-not-block_header_right : goal.returns-then-not-block_header_right
unfolding block_asks
returns-then-not-block_header_right c = sym (yes-2 (goal.at.returns-then-not-block_header_right c).Else-not-block_check_right ∙
    first-no 3 _ (said-no c.block_header_right.ensures c.if-not-block_header_right.true))

pub in_turn-requires : goal.in_turn-requires
in_turn-requires c = c.requires.0

pub returns-then-not-in_turn : goal.returns-then-not-in_turn
unfolding block_asks
returns-then-not-in_turn c = sym (yes-3 (goal.at.returns-then-not-in_turn c).Else-not-block_header_right ∙ first-no 4 _ (said-no c.in_turn.ensures c.if-not-in_turn.true))

-- ---- the refusals 5 to 8
pub returns-then-not-calendar_clean : goal.returns-then-not-calendar_clean
unfolding block_asks
returns-then-not-calendar_clean c =
    sym (yes-4 (goal.at.returns-then-not-calendar_clean c).Else-not-in_turn ∙ first-no 5 _ (said-no c.calendar_clean.ensures c.if-not-calendar_clean.true))

pub weeks_go_on-requires : goal.weeks_go_on-requires
weeks_go_on-requires c = c.requires.1

pub returns-then-not-weeks_go_on : goal.returns-then-not-weeks_go_on
unfolding block_asks
returns-then-not-weeks_go_on c =
    sym (yes-5 (goal.at.returns-then-not-weeks_go_on c).Else-not-calendar_clean ∙ first-no 6 _ (said-no c.weeks_go_on.ensures c.if-not-weeks_go_on.true))

pub returns-then-not-block_records_right : goal.returns-then-not-block_records_right
unfolding block_asks
returns-then-not-block_records_right c = sym (yes-6 (goal.at.returns-then-not-block_records_right c).Else-not-weeks_go_on ∙
    first-no 7 _ (said-no (records (goal.at.returns-then-not-block_records_right c).After-block_records_right) c.if-not-block_records_right.true))

pub returns-then-not-ids_go_on : goal.returns-then-not-ids_go_on
unfolding block_asks ids_go_on
returns-then-not-ids_go_on c = sym (yes-7 (goal.at.returns-then-not-ids_go_on c).Else-not-block_records_right ∙ first-no 8 _ (said-no c.ids_go_on.ensures c.if-not-ids_go_on.true))

-- ---- all seven yeses: no refusal
pub returns : goal.returns
unfolding block_asks ids_go_on
returns c = sym (yes-7 (goal.at.returns c).Else-not-block_records_right ∙ first-yes 8 _ (said-yes c.ids_go_on.ensures c.if-not-ids_go_on.false) ∙ no-asks)
