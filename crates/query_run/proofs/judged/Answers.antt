-- The verdict that is passed on is the file's own, and the notices are those that were read; without them nothing is answered.
use mathlib.Core.Path.{sym, ap, ◌∙◌}
use lib.Seq.{length-take-le}
use Rattle.questions.proofs.Bools.{clash}
use Rattle.streams.specs.declared.output.Told.{Told}
use Rattle.query_run.proofs.judged.Goals as goal

pub returns-then-notices : goal.returns-then-notices
returns-then-notices c =
    let n = c.nothing_answered-answered.ensures in
    let t = ap (λ (t : Told). t.bytes) n.1 ∙ c.nothing_told.ensures in
    (c.notices_of-notices.ensures.0.0, (λ e. (n.0, t)), (λ e. clash c.if-notices.true e))

pub slice_bounds-answer-end-2 : goal.slice_bounds-answer-end-2
slice_bounds-answer-end-2 c = sym (length-take-le _ _ c.notices_of-notices.ensures.0.0)

pub answer-answered-requires : goal.answer-answered-requires
answer-answered-requires c =
    let pre = c.requires in
    (c.judge-judged.ensures, pre.0, pre.1, pre.2)

pub returns : goal.returns
returns c =
    (c.notices_of-notices.ensures.0.0, (λ e. clash e c.if-notices.false), (λ e. c.answer-answered.ensures))
