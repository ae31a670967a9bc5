-- `read_price` gives the price that a word is. It is none where the whole or the part is none (`price-none`), held at 1,000,000,000
-- above 99,999 (`price-large`), else 10,000 times the whole and the part (`price-small`), which fits since a part is at most 9,999.
use Prim.Native.Nat.{◌≤◌}
use native.Mathlib.Omega.{arith}
use Rattle.delivery_lines.proofs.NoticeValues.{price-none, price-large, price-small}
use Rattle.file_text_lines.proofs.NumberWords.{part-most}
use Rattle.delivery_lines.proofs.read_price.Goals as goal

pub returns-then-not-whole-part : goal.returns-then-not-whole-part
returns-then-not-whole-part c =
    price-none _ _ _ c.read_whole-whole.ensures c.part_read-part.ensures c.if-not-whole-part.true

pub returns-then-whole-gt99999 : goal.returns-then-whole-gt99999
returns-then-whole-gt99999 c =
    price-large _ _ _ c.read_whole-whole.ensures c.part_read-part.ensures
    c.if-not-whole-part.false c.if-whole-gt99999.true

pub overflow_add-result : goal.overflow_add-result
overflow_add-result c =
    let g : c.part_read-part.result.value ≤ 9999 = part-most _ _ c.part_read-part.ensures in
    omega arith

pub returns : goal.returns
returns c =
    price-small _ _ _ c.read_whole-whole.ensures c.part_read-part.ensures
    c.if-not-whole-part.false c.if-whole-gt99999.false (part-most _ _ c.part_read-part.ensures)
