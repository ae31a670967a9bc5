-- `read_whole` gives the number before the point: of a pointed word all but its last five bytes are read
-- (`whole-pointed`), of another the word (`whole-bare`). A pointed word has those five bytes (`pointed-long`).
use mathlib.Core.Path.{sym, ◌∙◌, ap}
use native.Mathlib.Omega.{arith}
use lib.Seq.{length-take-le}
use Rattle.delivery_lines.proofs.NoticeValues.{whole-pointed, whole-bare}
use Rattle.delivery_lines.specs.NoticeLines.{number_held}
use Rattle.file_text_lines.proofs.NumberWords.{pointed-long}
use Rattle.delivery_lines.proofs.read_whole.Goals as goal

pub overflow_sub-end : goal.overflow_sub-end
overflow_sub-end c = pointed-long _ (sym c.is_pointed.ensures ∙ c.if-is_pointed.true)

pub slice_bounds-read_number-end : goal.slice_bounds-read_number-end
slice_bounds-read_number-end c = sym (length-take-le _ _ (omega arith))

pub returns-then-is_pointed : goal.returns-then-is_pointed
returns-then-is_pointed c = c.read_number.ensures ∙ ap number_held (whole-pointed _ (sym c.is_pointed.ensures ∙ c.if-is_pointed.true))

pub returns : goal.returns
returns c = c.read_number-2.ensures ∙ ap number_held (whole-bare _ (sym c.is_pointed.ensures ∙ c.if-is_pointed.false))
