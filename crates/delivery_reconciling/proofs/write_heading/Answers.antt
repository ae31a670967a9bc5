-- The heading is all that was written.
use mathlib.Core.Path.{sym}
use native.Mathlib.Omega.{arith}
use lib.Seq.{length-take-le}
use Rattle.delivery_reconciling.proofs.Counts.{text-fits, heading-short}
use Rattle.delivery_reconciling.proofs.write_heading.Goals as goal

pub slice_bounds-bytes-end : goal.slice_bounds-bytes-end
slice_bounds-bytes-end c = (text-fits _ heading-short _ c.requires).0

pub returns : goal.returns
returns c = λ o.
    let f = text-fits _ heading-short c.args.line c.requires in
    omega (
      arith,
      (c.write_next.ensures o).1,
      c.nothing_sent-nothing.ensures.1,
      f.1,
      length-take-le c.args.line.length c.args.line.bytes f.0,
    )

pub slice_bounds-write_next-end-2 : goal.slice_bounds-write_next-end-2
slice_bounds-write_next-end-2 c = sym (length-take-le _ _ (text-fits _ heading-short _ c.requires).0)
