-- Shown: yes exactly where the numbers of the first n places are distinct and from 1 to the count given (`every-range`).
use Rattle.std.proofs.Common.{rules}
use Rattle.std.proofs.lemmas.Iterator.{YieldsList-from_range}
use Rattle.std.proofs.lemmas.Iterator.Search.{all_from_yields_List}
use Rattle.questions.proofs.Chains.{every-range}
use Rattle.table_numbering.specs.Numbering.{numbers_right, number_right}
use mathlib.Core.Path.{refl, ◌∙◌}
use native.Mathlib.Omega.{arith}
use Rattle.table_numbering.proofs.are_first_right.Goals as goal

pub returns : goal.returns
unfolding numbers_right
returns c =
    let p = number_right c.args.maturities c.args.given in
    all_from_yields_List p _ _ c.all.result c.all.ensures.ran (YieldsList-from_range 0 c.args.n c.args.n refl (omega arith)) (λ x b q k. search rules)
    ∙ every-range p c.args.n
