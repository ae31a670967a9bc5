-- A line with no bytes has no answer; any other has that of a line.
use Rattle.delivery_sessions.proofs.QueryPassing.{no_last, last_line}
use Rattle.delivery_sessions.proofs.answer_last.Goals as goal

pub returns-then-line-eq0 : goal.returns-then-line-eq0
returns-then-line-eq0 c = no_last _ _ _ _ _ c.if-line-eq0.true

pub returns : goal.returns
returns c =
    last_line _ _ _ _ _ _ _ _ c.if-line-eq0.false c.answer_line-a.ensures
