-- The line has the bytes of its text.
use mathlib.Core.Path.{sym}
use native.Mathlib.Omega.{arith}
use lib.Seq.{length-take-le}
use Rattle.delivery_reconciling.proofs.Openings.{opening-fits}
use Rattle.delivery_reconciling.proofs.tell_opening.Goals as goal

pub slice_bounds-bytes-end : goal.slice_bounds-bytes-end
slice_bounds-bytes-end c = (opening-fits _ _ _ _ _ c.args.line c.requires).0

pub slice_bounds-tell_next-end : goal.slice_bounds-tell_next-end
slice_bounds-tell_next-end c = sym (length-take-le _ _ (opening-fits _ _ _ _ _ c.args.line c.requires).0)

pub returns : goal.returns
returns c =
    let f = opening-fits _ _ _ _ _ c.args.line c.requires in
    omega (arith, c.tell_next.ensures, f.1, length-take-le c.args.line.length c.args.line.bytes f.0)
