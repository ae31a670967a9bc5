-- `least_unlisted` gives the least key from one on that was delivered and is not listed. The loop keeps: the least of what is found so far
-- and the keys from place j on is that of 65,536 and all of them; a turn is `least-next`, and past the last row none is left (`least-done`).
use mathlib.Core.Path.{refl, ◌∙◌, sym}
use native.Mathlib.Omega.{arith}
use lib.ListN.{take}
use Rattle.delivery_differences.specs.DifferencePasses.{row_keys_at, unlisted}
use Rattle.delivery_differences.proofs.KeyRows.{keys-long, key-of}
use Rattle.delivery_differences.proofs.DifferencePasses.{least-next, least-done}
use Rattle.delivery_differences.proofs.least_unlisted.Goals as goal

pub loop-place-init : goal.loop-place-init
loop-place-init c = (omega arith, refl)

pub loop-place-preserved : goal.loop-place-preserved
loop-place-preserved c =
    let args = c.args in
    let v = c.loop-place.invariant in
    let ks = row_keys_at args.keys.now args.places.now in
    let l = rw (c.list_number-key.ensures, c.from.ensures) at c.lesser_unlisted-least.ensures in (
      v.0,
      least-next (unlisted (take args.n args.maturities)) args.from ks c.loop-place.place-index
          c.loop-place.least c.lesser_unlisted-least.result
          (omega (arith, keys-long args.keys.now args.places.now, c.loop-place-test.true))
          (rw (key-of args.keys.now args.places.now c.loop-place.place-index (omega arith)) l) ∙ v.1,
    )

pub returns : goal.returns
returns c =
    let args = c.args in
    let v = c.loop-place.invariant in
    let ks = row_keys_at args.keys.now args.places.now in
    sym (least-done (unlisted (take args.n args.maturities)) args.from ks c.loop-place.place-index c.loop-place.least
    (omega (arith, keys-long args.keys.now args.places.now, c.loop-place-test.false))) ∙ v.1
