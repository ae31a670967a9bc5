-- The line has the bytes of its text.
use mathlib.Core.Path.{sym}
use native.Mathlib.Omega.{arith}
use lib.Seq.{length-take-le}
use Rattle.delivery_reconciling.proofs.Counts.{text-fits}
use Rattle.reconcile_rows.proofs.tell_last.Goals as goal

pub slice_bounds-bytes-end : goal.slice_bounds-bytes-end
slice_bounds-bytes-end c = (text-fits _ c.requires.0 _ c.requires.1).0

pub slice_bounds-tell_next-end : goal.slice_bounds-tell_next-end
slice_bounds-tell_next-end c = sym (length-take-le _ _ (text-fits _ c.requires.0 _ c.requires.1).0)

pub returns : goal.returns
returns c =
    let f = text-fits _ c.requires.0 _ c.requires.1 in
    omega (arith, c.tell_next.ensures, f.1, length-take-le c.args.line.length c.args.line.bytes f.0)
