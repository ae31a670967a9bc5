-- As many maturities as the kind has places are numbered, entered and given.
use lib.Seq.{length-take-le}
use native.Mathlib.Omega.{arith}
use Rattle.session_apart.proofs.opened_rest.Goals as goal

pub returns : goal.returns
returns c =
    let e = c.places_of_kind-n.ensures in
    let l = length-take-le c.places_of_kind-n.result c.args.fresh (omega (arith, c.well_formed.1.1.1.0.1.0.1, e.1)) in
    rw (c.number_opened-maturities.ensures, ← e.0, l)
