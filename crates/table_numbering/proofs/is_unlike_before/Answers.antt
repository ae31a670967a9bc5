-- Shown: yes exactly where no place before i has the number of place i (`every_item`).
use Rattle.std.proofs.Common.{rules, tests, nat_eq}
use Rattle.std.proofs.lemmas.Iterator.{YieldsList-from_slice}
use Rattle.std.proofs.lemmas.Iterator.Search.{all_from_yields_List}
use Rattle.questions.proofs.Chains.{every_item}
use Rattle.listing.specs.Rules.{unused}
use lib.ListN.{get_or}
use mathlib.Core.Bool.{not}
use mathlib.Core.Path.{◌∙◌}
use native.Mathlib.Omega.{arith}
use Rattle.table_numbering.proofs.is_unlike_before.Goals as goal

pub returns : goal.returns
returns c =
    let number = (get_or c.args.maturities c.args.i unused).number in
    all_from_yields_List (λ m. not (nat_eq m.number number)) _ _ c.all.result c.all.ensures.ran (YieldsList-from_slice _ c.iter.ensures.rest)
    (λ x b q k. search (rules, tests))
    ∙ every_item (λ m. not (nat_eq m.number number)) c.args.maturities unused c.args.i (omega (arith, c.well_formed.0.1.0.1))
