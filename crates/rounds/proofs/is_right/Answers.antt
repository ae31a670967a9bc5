-- Shown: the answer is question 10. A count above 200 ends with no; else all used places are asked (`every-range`).
use Rattle.std.proofs.Common.{rules}
use Rattle.std.proofs.lemmas.Iterator.{YieldsList-from_range}
use Rattle.std.proofs.lemmas.Iterator.Search.{all_from_yields_List}
use Rattle.rounds.specs.Rounds.{queue_right, queue_place_right}
use Rattle.questions.proofs.Chains.{every-range}
use borrow.Author.Tests.{le-leb, lt-leb}
use mathlib.Core.Path.{refl, ◌∙◌}
use native.Mathlib.Omega.{arith}
use Rattle.rounds.proofs.is_right.Goals as goal

-- ---- a count above 200
pub returns-then-n-gt200 : goal.returns-then-n-gt200
unfolding queue_right
returns-then-n-gt200 c = rw (lt-leb _ _ c.if-n-gt200.true)

-- ---- after the test
pub returns : goal.returns
unfolding queue_right
returns c =
    let p = queue_place_right c.args.q.tables in
    let e = all_from_yields_List p _ _ c.all.result c.all.ensures.ran (YieldsList-from_range 0 c.args.q.count c.args.q.count refl (omega arith)) (λ x b q k. search rules) in
    rw (le-leb _ _ c.if-n-gt200.false) (e ∙ every-range p _)
