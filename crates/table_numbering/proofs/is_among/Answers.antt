-- Shown: yes exactly where one of the maturities has the month (`listed-any`).
use Rattle.std.proofs.Common.{rules, tests, nat_eq}
use Rattle.std.proofs.lemmas.Iterator.{YieldsList-from_slice}
use Rattle.std.proofs.lemmas.Iterator.Search.{any_from_yields_List}
use Rattle.table_numbering.proofs.FirstMaturities.{listed-any}
use mathlib.Core.Path.{◌∙◌, sym}
use Rattle.table_numbering.proofs.is_among.Goals as goal

pub returns : goal.returns
returns c =
    any_from_yields_List (λ m. nat_eq m.key c.args.key) _ _ c.any.result c.any.ensures.ran (YieldsList-from_slice c.args.maturities.now c.iter.ensures.rest)
    (λ x b q k. search (rules, tests))
    ∙ sym (listed-any c.args.key c.args.maturities.now)
