-- The first question answered no, where there is one: 3 to 8 of the file, then 25, asked of the calendar and the list.
-- A question answered yes leaves those after it (`yes-3` ..); a `return` is the first no among those left, or none. Two belong to 7:
-- a list that ends within a record, and a record not right. The yes to 4 bounds the years, so `within_cover` may be called.
use Prim.Native.Nat.{ℕ}
use mathlib.Core.Path.{◌≡◌, ◌∙◌, sym, ap}
use mathlib.Core.Bool.{true}
use mathlib.Core.List.{List}
use lib.ListN.{drop}
use Rattle.questions.specs.Questions.{Ask, first_no}
use Rattle.questions.proofs.Asks.{no-asks, first-yes, first-no}
use Rattle.questions.proofs.Bools.{said-no, said-yes}
use Rattle.calendar.specs.Trading.{clean, every_week}
use Rattle.file_calendar.specs.Calendars.{order_right}
use Rattle.file_draft.specs.Drafts.{file_of, write_asks}
use Rattle.file_draft.proofs.Headers.{headers-written}
use Rattle.file_draft.proofs.DraftCalendars.{order-written, clean-written, weeks-written}
use Rattle.file_draft.proofs.DraftRecords.{rises-written}
use Rattle.file_draft.proofs.DraftQuestions.{years-few, whole-written, part-written, fits-is}
use Rattle.file_draft.proofs.judge.Goals as goal
use Rattle.file_draft.proofs.judge.Goals.{Start, Else-not-years_right, Else-not-counts_right, Else-not-is_clean, Else-not-every_week_trades}
use Rattle.file_draft.proofs.judge.Goals.{Else-not-list_right, Else-not-list_rises}

-- ---- the yeses
abbrev asks : Start → List Ask
asks s = write_asks s.args.calendar s.args.records.now s.args.room

-- the first k questions are answered yes: the refusal is that of the others
abbrev Passed : ℕ → Start → Type 0
Passed k s = first_no (asks s) ≡ first_no (drop k (asks s))

yes-3 : (c : Else-not-years_right) → Passed 1 c.before.before.before.before.before
unfolding write_asks
yes-3 c = first-yes 3 _ (headers-written _ _ ∙ said-yes c.years_right.ensures c.if-not-years_right.false)

-- the place of an earlier yes, of a later one
abbrev before-4 : Else-not-counts_right → Else-not-years_right
before-4 c = record { before = c.before.before.before; type_inv = record { records = c.type_inv.records } }

abbrev before-5 : Else-not-is_clean → Else-not-counts_right
before-5 c = record { before = c.before.before.before.before; type_inv = record { records = c.type_inv.records } }

abbrev before-6 : Else-not-every_week_trades → Else-not-is_clean
before-6 c = record { before = c.before.before.before; type_inv = record { records = c.type_inv.records } }

abbrev before-7 : Else-not-list_right → Else-not-every_week_trades
before-7 c = record { before = c.before.before.before.before; type_inv = record { records = c.type_inv.records } }

abbrev before-8 : Else-not-list_rises → Else-not-list_right
before-8 c = record { before = c.before.before.before; type_inv = record { records = c.type_inv.records } }

-- the place where 4 is answered yes leads back to the start
abbrev start : Else-not-counts_right → Start
start c = c.before.before.before.before.before.before.before

ordered : (c : Else-not-counts_right) → order_right (file_of (start c).args.calendar (start c).args.records.now) ≡ true
ordered c = order-written _ _ ∙ said-yes c.counts_right.ensures c.if-not-counts_right.false

yes-4 : (c : Else-not-counts_right) → Passed 2 (start c)
unfolding write_asks
yes-4 c = yes-3 (before-4 c) ∙ first-yes 4 _ (ordered c)

yes-5 : (c : Else-not-is_clean) → Passed 3 (start (before-5 c))
unfolding write_asks
yes-5 c =
    let at-if2 = before-5 c in
    let said = said-yes (c.is_clean.ensures ∙ ap clean c.within_cover-held.ensures) c.if-not-is_clean.false in
    yes-4 at-if2 ∙ first-yes 5 _ (clean-written _ _ (ordered at-if2) ∙ said)

yes-6 : (c : Else-not-every_week_trades) → Passed 4 (start (before-5 (before-6 c)))
unfolding write_asks
yes-6 c =
    let at-if3 = before-6 c in
    let said = said-yes (c.every_week_trades.ensures ∙ ap every_week at-if3.within_cover-held.ensures) c.if-not-every_week_trades.false in
    yes-5 at-if3 ∙ first-yes 6 _ (weeks-written _ _ (ordered (before-5 at-if3)) ∙ said)

yes-7 : (c : Else-not-list_right) → Passed 5 (start (before-5 (before-6 (before-7 c))))
unfolding write_asks
yes-7 c = yes-6 (before-7 c) ∙ first-yes 7 _ (whole-written _ _ c.if-records-ne0.false ∙ said-yes c.list_right.ensures c.if-not-list_right.false)

yes-8 : (c : Else-not-list_rises) → Passed 6 (start (before-5 (before-6 (before-7 (before-8 c)))))
unfolding write_asks
yes-8 c = yes-7 (before-8 c) ∙ first-yes 8 _ (rises-written _ _ c.if-records-ne0.false ∙ said-yes c.list_rises.ensures c.if-not-list_rises.false)

-- ---- the refusals 3 to 6
pub returns-then-not-years_right : goal.returns-then-not-years_right
unfolding write_asks
returns-then-not-years_right c = sym (first-no 3 _ (headers-written _ _ ∙ said-no c.years_right.ensures c.if-not-years_right.true))

pub returns-then-not-counts_right : goal.returns-then-not-counts_right
unfolding write_asks
returns-then-not-counts_right c = sym (yes-3 (goal.at.returns-then-not-counts_right c).Else-not-years_right ∙
    first-no 4 _ (order-written _ _ ∙ said-no c.counts_right.ensures c.if-not-counts_right.true))

pub within_cover-held-requires : goal.within_cover-held-requires
within_cover-held-requires c =
    years-few c.args.calendar.cover c.args.records.now (said-yes c.counts_right.ensures c.if-not-counts_right.false)

pub returns-then-not-is_clean : goal.returns-then-not-is_clean
unfolding write_asks
returns-then-not-is_clean c =
    let at-if2 = (goal.at.returns-then-not-is_clean c).Else-not-counts_right in
    let said = said-no (c.is_clean.ensures ∙ ap clean c.within_cover-held.ensures) c.if-not-is_clean.true in
    sym (yes-4 at-if2 ∙ first-no 5 _ (clean-written _ _ (ordered at-if2) ∙ said))

pub returns-then-not-every_week_trades : goal.returns-then-not-every_week_trades
unfolding write_asks
returns-then-not-every_week_trades c =
    let at-if3 = (goal.at.returns-then-not-every_week_trades c).Else-not-is_clean in
    let said = said-no (c.every_week_trades.ensures ∙ ap every_week at-if3.within_cover-held.ensures) c.if-not-every_week_trades.true in
    sym (yes-5 at-if3 ∙ first-no 6 _ (weeks-written _ _ (ordered (before-5 at-if3)) ∙ said))

-- ---- the refusals 7, 8 and 25
pub returns-then-records-ne0 : goal.returns-then-records-ne0
unfolding write_asks
returns-then-records-ne0 c = sym (yes-6 (goal.at.returns-then-records-ne0 c).Else-not-every_week_trades ∙ first-no 7 _ (part-written _ _ c.if-records-ne0.true))

pub returns-then-not-list_right : goal.returns-then-not-list_right
unfolding write_asks
returns-then-not-list_right c =
    sym (yes-6 (goal.at.returns-then-not-list_right c).Else-not-every_week_trades
    ∙ first-no 7 _ (whole-written _ _ c.if-records-ne0.false ∙ said-no c.list_right.ensures c.if-not-list_right.true))

pub returns-then-not-list_rises : goal.returns-then-not-list_rises
unfolding write_asks
returns-then-not-list_rises c =
    sym (yes-7 (goal.at.returns-then-not-list_rises c).Else-not-list_right
    ∙ first-no 8 _ (rises-written _ _ c.if-records-ne0.false ∙ said-no c.list_rises.ensures c.if-not-list_rises.true))

pub returns-then-not-has_room : goal.returns-then-not-has_room
unfolding write_asks
returns-then-not-has_room c =
    let said = rw c.blocks_in.ensures at (said-no c.has_room.ensures c.if-not-has_room.true) in
    sym (yes-8 (goal.at.returns-then-not-has_room c).Else-not-list_rises ∙ first-no 25 _ (fits-is _ _ _ ∙ said))

-- ---- all yeses: 0
pub returns : goal.returns
unfolding write_asks
returns c =
    let said = rw c.blocks_in.ensures at (said-yes c.has_room.ensures c.if-not-has_room.false) in
    sym (yes-8 (goal.at.returns c).Else-not-list_rises ∙ first-yes 25 _ (fits-is _ _ _ ∙ said) ∙ no-asks)
