-- `right_of` gives the maturity with a key among the first n: the first that the search finds (`right-found`).
use Rattle.std.proofs.Common.{◌∙◌, ap, rules, tests}
use Rattle.std.proofs.lemmas.Iterator.{YieldsList-from_slice}
use Rattle.std.proofs.lemmas.Iterator.Search.{find_from_yields_List}
use lib.Dec.{eqb}
use lib.ListN.{take}
use Rattle.listing.specs.declared.Maturity.{Maturity}
use Rattle.delivery_differences.specs.DifferencePasses.{right_found}
use Rattle.delivery_differences.proofs.KeyRows.{right-found}
use Rattle.delivery_differences.proofs.right_of.Goals as goal

pub returns : goal.returns
returns c =
    let ms = take c.args.n c.args.maturities in
    let key = c.args.key in
    ap right_found (c.copied.ensures ∙ find_from_yields_List (λ (m : Maturity). eqb m.key key) _ _ c.find.result c.find.ensures.ran
    (YieldsList-from_slice ms cc) (λ x b q k. search (rules, tests))) ∙ right-found ms key
