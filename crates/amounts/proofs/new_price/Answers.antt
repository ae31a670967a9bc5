-- The price after a measure: `nearest_to` of price times size over the changed size, as the definition has it. The product of two numbers of 32 bits
-- fits 64.
use Prim.Native.Nat.{◌≤◌}
use native.Mathlib.Nat.{mul-le-mul}
use native.Mathlib.Omega.{arith}
use Rattle.amounts.specs.Prices.{new_price}
use Rattle.amounts.proofs.new_price.Goals as goal

pub overflow_mul-price : goal.overflow_mul-price
overflow_mul-price c =
    let p : c.args.price ≤ 4294967295 = omega arith in
    let s : c.args.size ≤ 4294967295 = omega arith in
    omega (arith, mul-le-mul p s)

pub returns : goal.returns
unfolding new_price
returns c = c.nearest_to.ensures
