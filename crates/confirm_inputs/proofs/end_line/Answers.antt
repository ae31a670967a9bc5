-- Without an open the first line is bad; else the table judges the numbers of the list.
use mathlib.Core.Path.{sym}
use lib.Seq.{length-take-le}
use borrow.Author.Tests.{not-true, not-false}
use Rattle.confirm_inputs.proofs.VerdictTexts.{said, end-unopened, end-judged}
use Rattle.confirm_inputs.proofs.end_line.Goals as goal

pub returns-then-not-s : goal.returns-then-not-s
returns-then-not-s c = said c.bad_input_line.ensures (end-unopened _ _ (not-true _ c.if-not-s.true))

pub slice_bounds-judge-end : goal.slice_bounds-judge-end
slice_bounds-judge-end c = sym (length-take-le _ _ c.requires)

pub returns : goal.returns
returns c =
    said c.judged_line.ensures (end-judged _ _ (not-false _ c.if-not-s.false) _ c.judge.ensures)
