-- After the lines of the products come those of the unknown ids.
use native.Mathlib.Omega.{arith}
use Rattle.delivery_reconciling.proofs.ReconcileRuns.{strangers-few, differences-out}
use Rattle.delivery_reconciling.proofs.print_others.Goals as goal

pub overflow_add-lines : goal.overflow_add-lines
overflow_add-lines c =
    omega (arith, c.requires, strangers-few _ _ _ _ _ c.print_strangers-others.ensures)

pub returns-clause-lines_bound : goal.returns-clause-lines_bound
returns-clause-lines_bound c = omega (arith, c.requires, strangers-few _ _ _ _ _ c.print_strangers-others.ensures)

pub returns-clause-differences_out : goal.returns-clause-differences_out
returns-clause-differences_out c = λ x. differences-out _ _ _ _ _ x _ c.print_strangers-others.ensures
