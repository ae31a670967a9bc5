-- A line without the mark, where it is the text's first: what follows the bytes that `mark_length` counts.
use Rattle.file_text_stripped.proofs.LineHeld.{bare-first, bare-other}
use Rattle.file_text_stripped.proofs.bare_text.Goals as goal

pub returns-then-first : goal.returns-then-first
returns-then-first c = bare-first _ _ c.if-first.true _ c.mark_length-mark.ensures.0

pub returns : goal.returns
returns c = bare-other _ _ c.if-first.false
