-- The verdict that is passed on is the file's own, and the notices are those that were read.
use mathlib.Core.Path.{sym}
use lib.Seq.{length-take-le}
use Rattle.questions.proofs.Bools.{clash}
use borrow.Author.Rules.{rules}
use Rattle.deliver_run.proofs.judged.Goals as goal

pub returns-then-read : goal.returns-then-read
returns-then-read c =
    let none = c.nothing_handed-handed.ensures in
    (c.notices_of-read.ensures, (λ e. (none.1, none.2)), λ e. clash c.if-read.true e)

pub slice_bounds-answer-end-2 : goal.slice_bounds-answer-end-2
slice_bounds-answer-end-2 c = sym (length-take-le _ _ (search rules))

pub answer-handed-requires : goal.answer-handed-requires
answer-handed-requires c =
    (c.judge-judged.ensures, c.requires)

pub returns : goal.returns
returns c =
    (c.notices_of-read.ensures, (λ e. clash e c.if-read.false), λ e. c.answer-handed.ensures)
