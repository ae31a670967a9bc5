-- The table has the fresh maturities numbered 1, 2, .., and the count given and the months entered are both n. The listing
-- has n months, since n, the number of places of the kind, is within the fifteen places.
use lib.Seq.{length-take-le}
use native.Mathlib.Omega.{arith}
use Rattle.table.proofs.opened_with.Goals as goal

pub returns : goal.returns
returns c =
    let e = c.places_of_kind-n.ensures in
    let l = length-take-le c.places_of_kind-n.result c.args.fresh
    (omega (arith, c.well_formed.1.1.1.0.1.0.1, e.1)) in
    rw (c.number_opened-maturities.ensures, ← e.0, l)
