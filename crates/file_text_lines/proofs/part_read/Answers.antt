-- The ten-thousandths of a size: its last four bytes as a number where it has a point (part-pointed), else 0 (part-whole).
-- A word with a point has at least four bytes, so its part lies in it.
use mathlib.Core.Path.{sym, ◌∙◌}
use Rattle.file_text_lines.proofs.NumberWords.{pointed-more, part-pointed, part-whole}
use Rattle.file_text_lines.proofs.part_read.Goals as goal

pub overflow_sub-start : goal.overflow_sub-start
overflow_sub-start c = pointed-more _ (sym c.is_pointed.ensures ∙ c.if-is_pointed.true)

pub returns-then-is_pointed : goal.returns-then-is_pointed
returns-then-is_pointed c = c.word_number.ensures ∙ part-pointed _ (sym c.is_pointed.ensures ∙ c.if-is_pointed.true)

pub returns : goal.returns
returns c = part-whole _ (sym c.is_pointed.ensures ∙ c.if-is_pointed.false)
