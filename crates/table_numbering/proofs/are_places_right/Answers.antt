-- Shown: yes exactly where all fifteen places have the fresh month, day and days stepped back, and unused ones number 0
-- (`every-range`). n is the number of places of the kind.
use Rattle.std.proofs.Common.{rules}
use Rattle.std.proofs.lemmas.Iterator.{YieldsList-from_range}
use Rattle.std.proofs.lemmas.Iterator.Search.{all_from_yields_List}
use Rattle.questions.proofs.Chains.{every-range}
use Rattle.table_numbering.specs.Numbering.{place_right}
use Rattle.listing.specs.Months.{places_of_kind}
use mathlib.Core.Path.{refl, ◌∙◌}
use native.Mathlib.Omega.{arith}
use Rattle.table_numbering.proofs.are_places_right.Goals as goal

pub returns : goal.returns
returns c =
    let p = place_right c.args.maturities c.args.fresh (places_of_kind c.args.kind) in
    all_from_yields_List p _ _ c.all.result c.all.ensures.ran (YieldsList-from_range 0 15 15 refl (omega arith)) (λ x b q k. search rules) ∙ every-range p 15
