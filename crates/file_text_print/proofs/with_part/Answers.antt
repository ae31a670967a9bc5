-- A line with the ten-thousandths of a size more: nothing where it is whole (part_none), else a point and four digits (part-some).
use Rattle.file_text_print.proofs.Building.{then, one, part_none, part-some}
use Rattle.file_text_print.proofs.with_part.Goals as goal

pub returns-then-part-eq0 : goal.returns-then-part-eq0
returns-then-part-eq0 c = part_none _ _ c.if-part-eq0.true

pub returns : goal.returns
returns c = part-some _ _ c.if-part-eq0.false _ (then (one _ _ _ c.extend.ensures) c.with_four.ensures)
