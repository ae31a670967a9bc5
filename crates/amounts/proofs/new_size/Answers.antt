-- The size after a measure of p for q: `nearest_to` of size times p over q, as the definition has it. The product of 32 and 16 bits fits 64.
use Prim.Native.Nat.{◌≤◌}
use native.Mathlib.Nat.{mul-le-mul}
use native.Mathlib.Omega.{arith}
use Rattle.amounts.specs.Prices.{new_size}
use Rattle.amounts.proofs.new_size.Goals as goal

pub overflow_mul-size : goal.overflow_mul-size
overflow_mul-size c =
    let s : c.args.size ≤ 4294967295 = omega arith in
    let p : c.args.p ≤ 65535 = omega arith in
    omega (arith, mul-le-mul s p)

pub returns : goal.returns
unfolding new_size
returns c = c.nearest_to.ensures
