-- The line has the bytes of its text.
use mathlib.Core.Path.{sym}
use native.Mathlib.Omega.{arith}
use lib.Seq.{length-take-le}
use Rattle.delivery_row_parts.proofs.PartsTaken.{row_fits}
use Rattle.delivery_row_parts.proofs.tell_row.Goals as goal

pub slice_bounds-bytes-end : goal.slice_bounds-bytes-end
slice_bounds-bytes-end c = (row_fits c.args.after.bad c.args.line c.requires).0

pub slice_bounds-tell_next-end : goal.slice_bounds-tell_next-end
slice_bounds-tell_next-end c =
    let args = c.args in
    sym (length-take-le _ _ (row_fits args.after.bad args.line c.requires).0)

pub returns : goal.returns
returns c =
    let args = c.args in
    let f = row_fits args.after.bad args.line c.requires in
    omega (arith, c.tell_next.ensures, f.1, length-take-le args.line.length args.line.bytes f.0)
