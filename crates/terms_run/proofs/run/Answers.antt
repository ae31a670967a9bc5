-- What was read of the file lies within its buffer; what `answer_all` promises of it is promised of the run.
use mathlib.Core.Path.{sym}
use lib.Seq.{length-take-le}
use borrow.Author.Rules.{rules}
use Rattle.terms_run.proofs.run.Goals as goal

pub slice_bounds-answer_all-end : goal.slice_bounds-answer_all-end
slice_bounds-answer_all-end c = sym (length-take-le _ _ (search rules))

pub returns : goal.returns
returns c =
    let a = c.answer_all.ensures in
    record { file = _; file-long = a.0; failed = a.1; text = a.2 }
