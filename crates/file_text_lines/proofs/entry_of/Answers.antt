-- The entry of a line, by its first byte: Y, S, P, or a closed day; a line of 64 characters or more is another line.
-- Each `return` is what the call of its letter ensures and cites the tests before it (begins-y to begins-else).
-- The parts that are lent to the calls lie in the line: it has 64 bytes and its length is less.
use native.Mathlib.Omega.{arith}
use mathlib.Core.Path.{◌≡◌, sym, ◌∙◌}
use lib.ListN.{length}
use lib.Seq.{length-take-le}
use Rattle.file_text_lines.proofs.EntryForms.{entry-long, begins-y, begins-s, begins-p, begins-else}
use Rattle.file_text_lines.proofs.entry_of.Goals as goal

-- ---- a line that is too long
pub returns-then-n-ge64 : goal.returns-then-n-ge64
returns-then-n-ge64 c = c.other_entry.ensures ∙ entry-long _ c.if-n-ge64.true

-- ---- a line that begins with Y
pub slice_bounds-bytes-end : goal.slice_bounds-bytes-end
slice_bounds-bytes-end c =
    let l : length c.args.line.bytes ≡ 64 = c.well_formed.0.1.1.0.1.0.1 in
    omega (arith, l)

pub slice_bounds-cover_entry-end : goal.slice_bounds-cover_entry-end
slice_bounds-cover_entry-end c =
    let l : length c.args.line.bytes ≡ 64 = c.well_formed.0.1.1.0.1.0.1 in
    sym (length-take-le c.args.line.length c.args.line.bytes (omega (arith, l)))

pub returns-then-letter-eq89 : goal.returns-then-letter-eq89
returns-then-letter-eq89 c = c.cover_entry.ensures ∙ begins-y _ c.if-n-ge64.false c.if-letter-eq89.true

-- ---- a line that begins with S
pub slice_bounds-bytes-end-then-letter-eq83 : goal.slice_bounds-bytes-end-then-letter-eq83
slice_bounds-bytes-end-then-letter-eq83 c =
    let l : length c.args.line.bytes ≡ 64 = c.well_formed.0.1.1.0.1.0.1 in
    omega (arith, l)

pub slice_bounds-seed_entry-end : goal.slice_bounds-seed_entry-end
slice_bounds-seed_entry-end c =
    let l : length c.args.line.bytes ≡ 64 = c.well_formed.0.1.1.0.1.0.1 in
    sym (length-take-le c.args.line.length c.args.line.bytes (omega (arith, l)))

pub returns-then-letter-eq83 : goal.returns-then-letter-eq83
returns-then-letter-eq83 c = c.seed_entry.ensures ∙ begins-s _ c.if-n-ge64.false c.if-letter-eq89.false
    c.if-letter-eq83.true

-- ---- a line that begins with P
pub slice_bounds-bytes-end-then-letter-eq80 : goal.slice_bounds-bytes-end-then-letter-eq80
slice_bounds-bytes-end-then-letter-eq80 c =
    let l : length c.args.line.bytes ≡ 64 = c.well_formed.0.1.1.0.1.0.1 in
    omega (arith, l)

pub slice_bounds-product_entry-end : goal.slice_bounds-product_entry-end
slice_bounds-product_entry-end c =
    let l : length c.args.line.bytes ≡ 64 = c.well_formed.0.1.1.0.1.0.1 in
    sym (length-take-le c.args.line.length c.args.line.bytes (omega (arith, l)))

pub returns-then-letter-eq80 : goal.returns-then-letter-eq80
returns-then-letter-eq80 c =
    c.product_entry.ensures ∙ begins-p _ c.if-n-ge64.false c.if-letter-eq89.false c.if-letter-eq83.false c.if-letter-eq80.true

-- ---- any other line
pub returns : goal.returns
returns c =
    c.day_entry.ensures ∙ begins-else _ c.if-n-ge64.false c.if-letter-eq89.false c.if-letter-eq83.false c.if-letter-eq80.false
