-- `mark_length` gives 3 where the text begins with the three bytes of a byte order mark (`mark-whole`), and 0
-- where it is shorter or one of them is another; each return by its test, and the length is within the text.
use native.Mathlib.Omega.{arith}
use Rattle.delivery_lines.proofs.Trimming.{mark-short, mark-first, mark-second, mark-third, mark-whole}
use Rattle.delivery_lines.proofs.mark_length.Goals as goal

pub returns-then-text-lt3 : goal.returns-then-text-lt3
returns-then-text-lt3 c = (mark-short _ c.if-text-lt3.true, omega arith)

pub returns-then-text : goal.returns-then-text
returns-then-text c = (mark-first _ c.if-text.true, omega arith)

pub returns-then-text-2 : goal.returns-then-text-2
returns-then-text-2 c = (mark-second _ c.if-text-2.true, omega arith)

pub returns-then-text-3 : goal.returns-then-text-3
returns-then-text-3 c = (mark-third _ c.if-text-3.true, omega arith)

pub returns : goal.returns
returns c = (mark-whole _ c.if-text.false c.if-text-2.false c.if-text-3.false, omega arith)
