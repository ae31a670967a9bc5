-- How many maturities a complete listing of a kind has: the sum of its row of counts (`sum-places`), at most 15 (`rest-room`).
use Rattle.std.proofs.Common.{◌≡◌, rules, sum, get_or, [], ◌∙◌}
use Rattle.listing.specs.Months.{counts}
use Rattle.listing.proofs.ListLoops.{rest, rest-room, sum-places}
use native.Mathlib.Omega.{arith}
use Rattle.listing.proofs.places_of_kind.Goals as goal

pub returns : goal.returns
unfolding rest
returns c =
    let e : c.sum.result ≡ sum (get_or counts c.kind_number-row.result []) = search rules in
    let p = (rw c.kind_number-row.ensures at e) ∙ sum-places c.args.kind in
    (p, omega (arith, p, rest-room c.args.kind))
