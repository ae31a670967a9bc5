-- Shown: the count is how many of the maturities have a month that the others have not (`missing-filter`), at most 15.
use Rattle.std.proofs.Common.{rules, tests}
use Rattle.std.proofs.lemmas.Iterator.{YieldsList-from_slice}
use Rattle.std.proofs.lemmas.Iterator.Consumers.{YieldsList-from_filter, count_from_yields_List}
use Rattle.table_numbering.proofs.FirstMaturities.{missing-filter, missing-few}
use Rattle.table_numbering.specs.Numbering.{is_listed}
use mathlib.Core.Bool.{not}
use mathlib.Core.Path.{◌∙◌, sym}
use native.Mathlib.Omega.{arith}
use Rattle.table_numbering.proofs.count_absent.Goals as goal

pub returns : goal.returns
returns c =
    let others = c.args.others.now in
    let own = c.args.maturities.now in
    let e = count_from_yields_List c.filter.result c.count.result c.count.ensures.ran
    (YieldsList-from_filter {s = c.filter.result} _ (λ m. not (is_listed others m.key)) (YieldsList-from_slice own cc)
    c.filter.ensures.closure (λ x b q k. search (rules, tests))) in
    let f = missing-filter others own in
    (e ∙ sym f, omega (arith, e, f, missing-few others own))
