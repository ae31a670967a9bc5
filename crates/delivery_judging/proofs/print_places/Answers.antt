-- Place after place, up to the last.
use mathlib.Core.Path.{refl}
use native.Mathlib.Omega.{arith}
use Rattle.delivery_judging.proofs.Places.{places-none, places-more, place_at}
use Rattle.delivery_judging.proofs.print_places.Goals as goal

pub overflow_mul-count : goal.overflow_mul-count
overflow_mul-count c = omega (arith, c.if-file-gt65537.false)

pub loop-p-init : goal.loop-p-init
loop-p-init c = (places-none _ _ _ _ _ _ _ _ _ _, refl)

pub overflow_add-lines : goal.overflow_add-lines
overflow_add-lines c = omega (
  arith,
  c.loop-p.invariant.0.few,
  c.print_place-part.ensures.few,
  c.loop-p-test.true,
  c.if-file-gt65537.false,
)

pub loop-p-preserved : goal.loop-p-preserved
loop-p-preserved c =
    let v = c.loop-p.invariant in let k = c.print_place-part.auto in (
      places-more _ _ _ _ _ _ _ _ _ _ _ _ _ v.0 _ (place_at _ _ _ _ _ _ _ _ _ _ v.1 _ _ _ c.print_place-part.ensures),
      omega (arith, v.1),
    )

pub shape_of-places : goal.shape_of-places
shape_of-places c = c.loop-p.invariant.1
