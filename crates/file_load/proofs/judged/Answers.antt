-- Questions 1 to 8 in order, and the file's calendar: the refusal is the number of the first that is answered no.
-- A question answered yes leaves those after it (`yes-1` ..); a refusal is the first no among those left, and after eight yeses none is.
-- The calendar comes from question 4: its yes makes it the file's (`made`), so 5 and 6 are asked of the file.
use mathlib.Core.Path.{◌≡◌, refl, ◌∙◌, sym, ap}
use mathlib.Core.List.{List}
use Prim.Native.Nat.{ℕ}
use lib.ListN.{drop}
use Rattle.questions.specs.Questions.{first_no}
use Rattle.questions.proofs.Asks.{no-asks, first-yes}
use Rattle.questions.proofs.Bools.{said-no, said-yes}
use Rattle.calendar.specs.Trading.{every_week, zero_calendar}
use Rattle.std.proofs.Common.{rules, Ok, Err}
use native.Mathlib.Omega.{arith}
use Rattle.questions.proofs.Refusals.{numbered-from-1}
use Rattle.questions.specs.Refusals.{result_answer}
use Rattle.file_calendar.specs.Calendars.{calendar_of, order_call, weeks_right}
use Rattle.file_load.specs.Load.{load_asks}
use Rattle.file_load.proofs.LoadAnswers.{order-yes, order-stops, order-calendar, judge-refused, judge-accepted}
use Rattle.file_load.proofs.judged.Goals as goal
use Rattle.file_load.proofs.judged.Goals.{Else-not-length_right, Else-not-checks_right, Else-not-headers_right, In_ok-cal}
use Rattle.file_load.proofs.judged.Goals.{Else-not-calendars_clean, After-every_week_trades, Else-not-every_week_trades, Else-not-products_right}

-- ---- the yeses
-- the first k questions are answered yes: the refusal is that of the others
abbrev Passed : ℕ → List ℕ → Type 0
Passed k f = first_no (load_asks f) ≡ first_no (drop k (load_asks f))

yes-1 : (c : Else-not-length_right) → Passed 1 c.args.file.now
unfolding load_asks
yes-1 c = first-yes 1 _ (said-yes c.length_right.ensures c.if-not-length_right.false)

yes-2 : (c : Else-not-checks_right) → Passed 2 c.args.file.now
unfolding load_asks
yes-2 c = yes-1 (goal.at.Else-not-checks_right c).Else-not-length_right ∙ first-yes 2 _ (said-yes c.checks_right.ensures c.if-not-checks_right.false)

yes-3 : (c : Else-not-headers_right) → Passed 3 c.args.file.now
unfolding load_asks
yes-3 c = yes-2 (goal.at.Else-not-headers_right c).Else-not-checks_right ∙ first-yes 3 _ (said-yes c.headers_right.ensures c.if-not-headers_right.false)

-- question 4 is answered yes with the calendar
ordered : (c : In_ok-cal) → result_answer zero_calendar (Ok c.in_ok-cal.cal) ≡ order_call c.args.file.now
ordered c = rw c.in_ok-cal.was at c.ordered_calendar.ensures

yes-4 : (c : In_ok-cal) → Passed 4 c.args.file.now
unfolding load_asks
yes-4 c = yes-3 (goal.at.In_ok-cal c).Else-not-headers_right ∙ first-yes 4 _ (order-yes _ _ (ordered c) refl)

made : (c : In_ok-cal) → c.in_ok-cal.cal ≡ calendar_of c.args.file.now
made c = order-calendar _ _ (ordered c) refl

yes-5 : (c : Else-not-calendars_clean) → Passed 5 c.args.file.now
unfolding load_asks
yes-5 c = yes-4 (goal.at.Else-not-calendars_clean c).In_ok-cal ∙ first-yes 5 _ (said-yes c.calendars_clean.ensures c.if-not-calendars_clean.false)

-- 6 is asked of the calendar that was made
weeks : (c : After-every_week_trades) → c.every_week_trades.result ≡ weeks_right c.args.file.now
unfolding weeks_right
weeks c = c.every_week_trades.ensures ∙ ap every_week (made (goal.at.After-every_week_trades c).In_ok-cal)

yes-6 : (c : Else-not-every_week_trades) → Passed 6 c.args.file.now
unfolding load_asks
yes-6 c = yes-5 (goal.at.Else-not-every_week_trades c).Else-not-calendars_clean ∙
    first-yes 6 _ (said-yes (weeks (goal.at.Else-not-every_week_trades c).After-every_week_trades) c.if-not-every_week_trades.false)

yes-7 : (c : Else-not-products_right) → Passed 7 c.args.file.now
unfolding load_asks
yes-7 c = yes-6 (goal.at.Else-not-products_right c).Else-not-every_week_trades ∙ first-yes 7 _ (said-yes c.products_right.ensures c.if-not-products_right.false)

-- ---- the refusals 1 to 4
pub returns-then-not-length_right : goal.returns-then-not-length_right
unfolding load_asks
returns-then-not-length_right c = sym (judge-refused _ 0 _ refl (said-no c.length_right.ensures c.if-not-length_right.true))

pub returns-then-not-checks_right : goal.returns-then-not-checks_right
unfolding load_asks
returns-then-not-checks_right c =
    let said = said-no c.checks_right.ensures c.if-not-checks_right.true in
    sym (judge-refused _ 1 _ (yes-1 (goal.at.returns-then-not-checks_right c).Else-not-length_right) said)

pub returns-then-not-headers_right : goal.returns-then-not-headers_right
unfolding load_asks
returns-then-not-headers_right c =
    let said = said-no c.headers_right.ensures c.if-not-headers_right.true in
    sym (judge-refused _ 2 _ (yes-2 (goal.at.returns-then-not-headers_right c).Else-not-checks_right) said)

pub returns-in_err-cal : goal.returns-in_err-cal
returns-in_err-cal c =
    let refusal = c.in_err-cal.field-0.0 in
    let e = rw c.in_err-cal.was at c.ordered_calendar.ensures in
    let kept : c.from_residual.result ≡ Err refusal = search rules in
    rw kept (order-stops _ _ e (λ z. omega (arith, z, numbered-from-1 refusal)) (yes-3 (goal.at.returns-in_err-cal c).Else-not-headers_right))

-- ---- the refusals 5 to 8
pub calendars_clean-requires : goal.calendars_clean-requires
calendars_clean-requires c =
    let at = (goal.at.calendars_clean-requires c).In_ok-cal in
    (order-yes _ _ (ordered at) refl, made at)

pub returns-then-not-calendars_clean : goal.returns-then-not-calendars_clean
unfolding load_asks
returns-then-not-calendars_clean c =
    let said = said-no c.calendars_clean.ensures c.if-not-calendars_clean.true in
    sym (judge-refused _ 4 _ (yes-4 (goal.at.returns-then-not-calendars_clean c).In_ok-cal) said)

pub returns-then-not-every_week_trades : goal.returns-then-not-every_week_trades
unfolding load_asks
returns-then-not-every_week_trades c =
    let said = said-no (weeks (goal.at.returns-then-not-every_week_trades c).After-every_week_trades) c.if-not-every_week_trades.true in
    sym (judge-refused _ 5 _ (yes-5 (goal.at.returns-then-not-every_week_trades c).Else-not-calendars_clean) said)

pub returns-then-not-products_right : goal.returns-then-not-products_right
unfolding load_asks
returns-then-not-products_right c =
    let said = said-no c.products_right.ensures c.if-not-products_right.true in
    sym (judge-refused _ 6 _ (yes-6 (goal.at.returns-then-not-products_right c).Else-not-every_week_trades) said)

pub returns-then-not-ids_rise : goal.returns-then-not-ids_rise
unfolding load_asks
returns-then-not-ids_rise c =
    let said = said-no c.ids_rise.ensures c.if-not-ids_rise.true in
    sym (judge-refused _ 7 _ (yes-7 (goal.at.returns-then-not-ids_rise c).Else-not-products_right) said)

-- ---- all eight yeses: the file is accepted
pub returns : goal.returns
unfolding load_asks
returns c =
    let none = yes-7 (goal.at.returns c).Else-not-products_right ∙ first-yes 8 _ (said-yes c.ids_rise.ensures c.if-not-ids_rise.false) ∙ no-asks in
    rw (made (goal.at.returns c).In_ok-cal) (sym (judge-accepted _ none))
