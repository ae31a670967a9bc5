-- `read_held` gives what a held line says: where a byte after the first 255 is no blank it is no row (`held-over`), else it
-- is read as a line (`held_whole`). The bytes that are read are those that the line holds, by what `held_length` promises.
use mathlib.Core.Path.{◌≡◌, sym}
use native.Mathlib.Omega.{arith}
use lib.ListN.{length}
use lib.Seq.{length-take-le}
use Rattle.delivery_items.proofs.ItemForms.{held-over, held_whole}
use Rattle.delivery_items.proofs.read_held.Goals as goal

-- ---- a line that is too long
pub slice_bounds-bytes-end : goal.slice_bounds-bytes-end
slice_bounds-bytes-end c =
    let l : length c.args.line.bytes ≡ 255 = c.well_formed.0.1.1.0.1.0.1 in
    omega (arith, l, c.held_length-n.ensures.0)

pub slice_bounds-is_headed-end : goal.slice_bounds-is_headed-end
slice_bounds-is_headed-end c =
    let args = c.args in
    let l : length args.line.bytes ≡ 255 = c.well_formed.0.1.1.0.1.0.1 in
    sym (length-take-le c.held_length-n.result args.line.bytes
    (omega (arith, c.held_length-n.ensures.0, l)))

pub returns-then-line : goal.returns-then-line
returns-then-line c =
    held-over c.args.line c.held_length-n.result c.held_length-n.ensures.1
    c.if-line.true _ _ c.is_headed-heading.ensures c.no_item-item.ensures

-- ---- a line that is held whole
pub slice_bounds-bytes-end-2 : goal.slice_bounds-bytes-end-2
slice_bounds-bytes-end-2 c =
    let l : length c.args.line.bytes ≡ 255 = c.well_formed.0.1.1.0.1.0.1 in
    omega (arith, l, c.held_length-n.ensures.0)

pub slice_bounds-read_line-end : goal.slice_bounds-read_line-end
slice_bounds-read_line-end c =
    let args = c.args in
    let l : length args.line.bytes ≡ 255 = c.well_formed.0.1.1.0.1.0.1 in
    sym (length-take-le c.held_length-n.result args.line.bytes
    (omega (arith, c.held_length-n.ensures.0, l)))

pub returns : goal.returns
returns c =
    held_whole c.args.line c.held_length-n.result c.held_length-n.ensures.1
    c.if-line.false _ c.read_line.ensures
