-- A price is a multiple of a tick exactly where it is a number of ticks.
-- Assumes nothing.
use mathlib.Core.Path.{◌≡◌}
use mathlib.Core.Bool.{true}
use Prim.Native.Nat.{ℕ, ◌*◌, ◌/◌, ◌%◌, ◌<◌}
use native.Mathlib.Nat.{div-add-mod', mul-mod_left}
use native.Mathlib.Omega.{arith}
use borrow.Author.Tests.{lt-ltb, eqb-true, eq-eqb}
use lib.Dec.{eqb, ltb}
use Rattle.questions.proofs.Bools.{and-snd, and_both}
use Rattle.amounts.specs.Prices.{multiple_of}

-- a whole number of ticks is a multiple of the tick, for a tick above 0
pub ticks-pass : (tick count : ℕ) → 0 < tick → multiple_of tick (count * tick) ≡ true
ticks-pass tick count h = and_both (lt-ltb 0 tick h) (eq-eqb (count * tick % tick) 0 (mul-mod_left count tick))

-- a price that is a multiple of the tick is a whole number of ticks
pub passes-ticks : (tick price : ℕ) → multiple_of tick price ≡ true → price ≡ price / tick * tick
passes-ticks tick price e =
    let r : price % tick ≡ 0 = eqb-true (price % tick) 0 (and-snd (ltb 0 tick) (eqb (price % tick) 0) e) in
    omega (arith, div-add-mod' price tick)
