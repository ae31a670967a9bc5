-- The shares of a size: the bytes before its point as a number (shares-pointed), or the whole word where it has none (shares_whole).
-- A word with a point has at least five bytes, so the part before it lies in it.
use mathlib.Core.Path.{sym, ◌∙◌}
use native.Mathlib.Omega.{arith}
use lib.Seq.{length-take-le}
use Rattle.file_text_lines.proofs.NumberWords.{pointed-long, shares-pointed, shares_whole}
use Rattle.file_text_lines.proofs.shares_read.Goals as goal

pub overflow_sub-end : goal.overflow_sub-end
overflow_sub-end c = pointed-long _ (sym c.is_pointed.ensures ∙ c.if-is_pointed.true)

pub slice_bounds-word_number-end : goal.slice_bounds-word_number-end
slice_bounds-word_number-end c = sym (length-take-le _ _ (omega arith))

pub returns-then-is_pointed : goal.returns-then-is_pointed
returns-then-is_pointed c = c.word_number.ensures ∙ shares-pointed _ (sym c.is_pointed.ensures ∙ c.if-is_pointed.true)

pub returns : goal.returns
returns c = c.word_number-2.ensures ∙ shares_whole _ (sym c.is_pointed.ensures ∙ c.if-is_pointed.false)
