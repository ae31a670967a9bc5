-- `answer_last` writes the answer to a last line that no line feed ends. A line with no bytes has
-- none (`no_last`); of another, `session_command::answer` says the text and its length (`last`).
use Rattle.session_parts.proofs.TermsPassing.{no_last, last}
use Rattle.session_parts.proofs.answer_last.Goals as goal

pub returns-then-line-eq0 : goal.returns-then-line-eq0
returns-then-line-eq0 c = no_last _ _ _ _ c.if-line-eq0.true

pub returns : goal.returns
returns c =
    let a = c.answer-a in
    last _ _ _ _ _ _ a.result.kept c.if-line-eq0.false a.ensures.0 a.ensures.1
