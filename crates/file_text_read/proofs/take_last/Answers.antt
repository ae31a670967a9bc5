-- A last line that no line feed ends: a line with no bytes is none (end_none), another is taken by `take_line` (end_line).
use Rattle.file_text_read.proofs.ListLines.{end_none, end_line}
use Rattle.file_text_read.proofs.take_last.Goals as goal

pub returns-then-line-eq0 : goal.returns-then-line-eq0
returns-then-line-eq0 c = end_none _ _ _ c.if-line-eq0.true

pub returns : goal.returns
returns c = end_line _ _ _ c.if-line-eq0.false _ _ c.take_line.ensures
