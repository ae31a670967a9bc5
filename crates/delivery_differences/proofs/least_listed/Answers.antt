-- `least_listed` gives the least of a key found before and the listed keys that differ. The loop keeps:
-- n is at most 15 and within the list, and the least of what is found so far and the keys from i on is
-- that of `found` and all of them; a turn is `least-next`, and at n none is left (`least-done`).
use mathlib.Core.Path.{refl, ◌∙◌, sym}
use native.Mathlib.Omega.{arith}
use lib.ListN.{take}
use Rattle.delivery_differences.specs.Differences.{differs_in, rows_at}
use Rattle.delivery_differences.specs.DifferencePasses.{maturity_keys}
use Rattle.delivery_differences.proofs.DifferencePasses.{least-next, least-done, first-long, first_key}
use Rattle.delivery_differences.proofs.least_listed.Goals as goal

-- ---- the loop
pub loop-i-init : goal.loop-i-init
loop-i-init c = (omega (arith, c.well_formed.0.1.0.1), omega arith, refl)

pub loop-i-preserved : goal.loop-i-preserved
loop-i-preserved c =
    let args = c.args in
    let v = c.loop-i.invariant in
    let ms = args.maturities in
    let ks = maturity_keys (take args.n ms) in (
      v.0,
      v.1,
      least-next (differs_in (take args.n ms)
          (rows_at args.keys.now args.days.now args.fulls.now args.numbers.now args.backs.now args.places.now)) args.from ks
          c.loop-i.i c.loop-i.least c.lesser_listed-least.result
          (omega (arith, first-long ms args.n v.0, c.loop-i-test.true))
          (rw (first_key ms args.n v.0 c.loop-i.i c.loop-i-test.true) c.lesser_listed-least.ensures) ∙ v.2,
    )

-- ---- the end
pub returns : goal.returns
returns c =
    let args = c.args in
    let v = c.loop-i.invariant in
    let ms = args.maturities in
    sym (least-done (differs_in (take args.n ms)
    (rows_at args.keys.now args.days.now args.fulls.now args.numbers.now args.backs.now args.places.now)) args.from
    (maturity_keys (take args.n ms)) c.loop-i.i c.loop-i.least (omega (arith, first-long ms args.n v.0, c.loop-i-test.false))) ∙
    v.2
