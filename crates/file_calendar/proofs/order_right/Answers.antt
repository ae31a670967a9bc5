-- Question 4 of a file with its years counted: 1 to 16 calendar blocks, a product block after them, and every block in order.
-- Each `return` of no is the first part of `order_right` that fails and cites the yeses before it; the last is what `all_in_order` answers.
use borrow.Author.Tests.{le-leb, lt-leb, lt-ltb, le-ltb}
use Rattle.file_calendar.specs.Calendars.{order_right}
use Rattle.file_calendar.proofs.order_right.Goals as goal

pub returns-then-years-lt1 : goal.returns-then-years-lt1
unfolding order_right
returns-then-years-lt1 c = simp (← c.requires, lt-leb _ _ c.if-years-lt1.true)

pub returns-then-years-gt16 : goal.returns-then-years-gt16
unfolding order_right
returns-then-years-gt16 c = simp (← c.requires, le-leb _ _ c.if-years-lt1.false, lt-leb _ _ c.if-years-gt16.true)

pub returns-then-file-years : goal.returns-then-file-years
unfolding order_right
returns-then-file-years c =
    simp (← c.requires, le-leb _ _ c.if-years-lt1.false, le-leb _ _ c.if-years-gt16.false, le-ltb _ _ c.if-file-years.true)

pub returns : goal.returns
unfolding order_right
returns c =
    simp (← c.requires, le-leb _ _ c.if-years-lt1.false, le-leb _ _ c.if-years-gt16.false, lt-ltb _ _ c.if-file-years.false)
    c.all_in_order.ensures
