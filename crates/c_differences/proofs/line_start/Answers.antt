-- Only at the start of a text a mark plays no part.
use mathlib.Core.Path.{◌∙◌}
use Rattle.c_differences.proofs.NextRow.{start-later, start_first}
use Rattle.c_differences.proofs.line_start.Goals as goal

pub returns-then-next-ne0 : goal.returns-then-next-ne0
returns-then-next-ne0 c = start-later _ _ c.if-next-ne0.true

pub returns : goal.returns
returns c = c.mark_length.ensures.0 ∙ start_first _ _ c.if-next-ne0.false
