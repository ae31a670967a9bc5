-- `friday_entry` reads a line of 21 bytes with a Friday, a space and a last trading day. Another length (`friday-short`) or another
-- byte at place 10 (`friday-unspaced`) is no entry; else both dates are read from their parts of the line (`friday-there`).
use mathlib.Core.Path.{◌∙◌, sym}
use native.Mathlib.Omega.{arith}
use lib.Seq.{length-take-le}
use Rattle.confirm_lines.proofs.Names.{friday-short, friday-unspaced, friday-there}
use Rattle.confirm_lines.proofs.friday_entry.Goals as goal

-- ---- the lines that are no entry
pub returns-then-line-ne21 : goal.returns-then-line-ne21
returns-then-line-ne21 c = sym (friday-short _ c.if-line-ne21.true)

pub returns-then-line-ne32 : goal.returns-then-line-ne32
returns-then-line-ne32 c = sym (friday-unspaced _ c.if-line-ne21.false c.if-line-ne32.true)

-- ---- the two dates and the entry
pub slice_bounds-date_in-end : goal.slice_bounds-date_in-end
slice_bounds-date_in-end c = sym (length-take-le 10 c.args.line.now
    (omega (arith, c.if-line-ne21.false)))

pub returns : goal.returns
returns c =
    c.entry_from.ensures ∙ friday-there _ c.if-line-ne21.false c.if-line-ne32.false _ _ c.date_in-name.ensures c.date_in-last.ensures
