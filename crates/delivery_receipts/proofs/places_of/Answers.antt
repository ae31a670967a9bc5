-- With room for `n` places, and `n` at most 65,536, the places of the product's rows among the first `n` stand at the list's start.
-- The loop keeps (`Gathering`): the first `size` places are those of the product among the first `i` rows, `size` is at most `i`, `i` at most `n`,
-- and the list is as long as it was. In the two early returns these conditions do not hold.
use mathlib.Core.Path.{◌∙◌, ap}
use native.Mathlib.Omega.{arith}
use Rattle.file_load.specs.Products.{same_id}
use mathlib.Core.List.{List}
use Prim.Native.Nat.{ℕ}
use Rattle.delivery_receipts.proofs.Gathering.{starts, place-room, place-small, gathers, gathered, none-gathered}
use Rattle.delivery_receipts.proofs.places_of.Goals as goal

-- ---- no room
pub returns-then-n-gt65536 : goal.returns-then-n-gt65536
returns-then-n-gt65536 c = none-gathered _ _ _ _ (λ s r. omega (arith, c.if-n-gt65536.true))

pub returns-then-places-n : goal.returns-then-places-n
returns-then-places-n c = none-gathered _ _ _ _ (λ s r. omega (arith, c.if-places-n.true))

-- ---- the loop
pub loop-i-init : goal.loop-i-init
loop-i-init c = starts _ _ _ _ c.if-n-gt65536.false c.if-places-n.false

pub put_place-size-requires : goal.put_place-size-requires
put_place-size-requires c = (
  place-room _ _ _ _ _ _ _ c.loop-i.invariant c.loop-i-test.true,
  place-small _ _ _ _ _ _ _ c.loop-i.invariant c.loop-i-test.true,
)

pub loop-i-preserved : goal.loop-i-preserved
loop-i-preserved c = gathers _ _ _ _ _ _ _ c.loop-i.invariant
    c.loop-i-test.true _
    (c.same_id-own.ensures ∙
    ap (λ (x : List ℕ). same_id x c.args.id)
    c.id_in.ensures) _ _ c.put_place-size.ensures.0 c.put_place-size.ensures.1

-- ---- the end
pub shape_of-places : goal.shape_of-places
shape_of-places c = c.loop-i.invariant.long

pub returns : goal.returns
returns c = gathered _ _ _ _ _ _ _ c.loop-i.invariant c.loop-i-test.false
