-- Question 4 and, where it is answered yes, the file's calendar.
-- The first `return` is the refusal 4. The other is accepted: the yes gives 1 to 16 years (`ordered`), so `calendar_blocks` is the file's calendar.
use mathlib.Core.Path.{sym, ◌∙◌}
use mathlib.Core.List.{[]}
use Rattle.questions.proofs.Asks.{no-asks, first-yes, first-no, accepted, refused}
use Rattle.questions.proofs.Bools.{said-no, said-yes}
use Rattle.file_calendar.specs.Calendars.{order_call}
use Rattle.file_calendar.proofs.CalendarBlocks.{ordered, calendar-is}
use Rattle.file_calendar.proofs.ordered_calendar.Goals as goal

pub order_right-requires : goal.order_right-requires
order_right-requires c = c.year_count-years.ensures.0

pub returns-then-not-order_right : goal.returns-then-not-order_right
unfolding order_call
returns-then-not-order_right c =
    sym (refused _ _ _ 3 (first-no 4 [] (said-no c.order_right.ensures c.if-not-order_right.true)))

pub calendar_blocks-requires : goal.calendar_blocks-requires
calendar_blocks-requires c =
    let y = c.year_count-years.ensures in
    let o = ordered _ (said-yes c.order_right.ensures c.if-not-order_right.false) in
    (y.0, rw y.0 o.some, rw y.0 o.most, y.1)

pub returns : goal.returns
unfolding order_call
returns c =
    let yes = said-yes c.order_right.ensures c.if-not-order_right.false in
    rw (c.calendar_blocks.ensures, sym (calendar-is _ (ordered _ yes))) (sym (accepted _ _ _ (first-yes 4 [] yes ∙ no-asks)))
