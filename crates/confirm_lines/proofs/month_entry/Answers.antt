-- `month_entry` reads a line of 18 bytes with a month, a space and a last trading day. Another length (`month-short`) or another byte
-- at place 7 (`month-unspaced`) is no entry; else the month's number and the day are read from their parts of the line (`month-there`).
use mathlib.Core.Path.{◌∙◌, sym, ap}
use Prim.Native.Nat.{ℕ}
use native.Mathlib.Omega.{arith}
use lib.Seq.{length-take-le}
use Rattle.confirm_lines.specs.ListingLines.{entry_from}
use Rattle.confirm_lines.proofs.Names.{month-short, month-unspaced, month-there}
use Rattle.confirm_lines.proofs.month_entry.Goals as goal

-- ---- the lines that are no entry
pub returns-then-line-ne18 : goal.returns-then-line-ne18
returns-then-line-ne18 c = sym (month-short _ c.if-line-ne18.true)

pub returns-then-line-ne32 : goal.returns-then-line-ne32
returns-then-line-ne32 c = sym (month-unspaced _ c.if-line-ne18.false c.if-line-ne32.true)

-- ---- the month, the date and the entry
pub slice_bounds-month_in-end : goal.slice_bounds-month_in-end
slice_bounds-month_in-end c = sym (length-take-le 7 c.args.line.now
    (omega (arith, c.if-line-ne18.false)))

pub returns : goal.returns
returns c =
    c.entry_from.ensures ∙ ap (λ (k : ℕ). entry_from c.month_in-name.result.letter k c.date_in-last.result) c.month_of.ensures ∙
    month-there _ c.if-line-ne18.false c.if-line-ne32.false _ _ c.month_in-name.ensures c.date_in-last.ensures
