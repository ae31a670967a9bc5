-- Each of the three cases by its test.
use mathlib.Core.Path.{◌∙◌}
use borrow.Author.Tests.{not-true, not-false}
use Rattle.c_delivery.proofs.NoticesSaid.{of_none, of-bad, of-good}
use Rattle.c_delivery.proofs.notices_of.Goals as goal

pub returns-then-not-t : goal.returns-then-not-t
returns-then-not-t c = c.no_notices.ensures ∙ of_none _ (not-true _ c.if-not-t.true)

pub returns-then-t-ne0 : goal.returns-then-t-ne0
returns-then-t-ne0 c = of-bad _ (not-false _ c.if-not-t.false) c.if-t-ne0.true

pub returns : goal.returns
returns c = of-good _ (not-false _ c.if-not-t.false) c.if-t-ne0.false
