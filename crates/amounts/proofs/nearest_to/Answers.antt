-- The whole number nearest to a / b, halves upward; 0 where b is 0 (`nearest-none`). A rest below one half of b is left out (`nearest-down`), any
-- other adds 1 (`nearest-up`); the larger number is at most a (`next-most`), so the sum fits.
use mathlib.Core.Path.{sym}
use native.Mathlib.Nat.{mod-lt}
use native.Mathlib.Omega.{arith}
use Rattle.amounts.proofs.Rounding.{nearest-down, nearest-up, nearest-none, next-most}
use Rattle.amounts.proofs.nearest_to.Goals as goal

pub returns-then-b-eq0 : goal.returns-then-b-eq0
returns-then-b-eq0 c = nearest-none _ _ (omega arith)

pub overflow_sub-b : goal.overflow_sub-b
overflow_sub-b c = omega (arith, mod-lt c.args.a {m = c.args.b} (omega arith))

pub returns-then-rest-b : goal.returns-then-rest-b
returns-then-rest-b c = sym (nearest-down _ _ (omega arith))

pub overflow_add-result : goal.overflow_add-result
overflow_add-result c = omega (arith, next-most c.args.a c.args.b (omega arith) (omega arith))

pub returns : goal.returns
returns c = sym (nearest-up _ _ (omega arith) (omega arith))
