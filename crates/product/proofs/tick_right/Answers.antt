-- Question 7, the tick: 1, 5, 10 or 100, the numbers of the definition's list.
use Rattle.std.proofs.lemmas.Bool.Decides.{nat_tests}
use native.Mathlib.Omega.{arith}
use Rattle.questions.specs.Search.{one_of}
use Rattle.product.specs.Fields.{tick_right}
use Rattle.product.proofs.tick_right.Goals as goal

pub returns-in-1 : goal.returns-in-1
unfolding tick_right one_of
returns-in-1 c = grind (arith, nat_tests)

pub returns-in_default : goal.returns-in_default
unfolding tick_right one_of
returns-in_default c = grind (arith, nat_tests)
