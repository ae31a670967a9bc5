-- `difference_at` tells of a key by the first n of 15 maturities: what `told_of`
-- says of `within(n)` of them, which are the same maturities (`up-to-15`).
use mathlib.Core.Path.{◌∙◌, ap}
use Rattle.delivery_differences.proofs.DifferencePasses.{up-to-15}
use Rattle.delivery_differences.specs.Differences.{difference_of, rows_at}
use mathlib.Core.List.{List}
use Rattle.listing.specs.declared.Maturity.{Maturity}
use Rattle.delivery_differences.proofs.difference_at.Goals as goal

pub returns : goal.returns
returns c =
    let args = c.args in
    c.told_of.ensures ∙ ap (λ (ms : List Maturity).
    difference_of ms (rows_at args.keys.now args.days.now args.fulls.now args.numbers.now args.backs.now args.places.now) args.key)
    (up-to-15 args.maturities args.n _ c.well_formed.0.1.0.1
    c.within.ensures.1)
