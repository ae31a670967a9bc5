-- Shown: the least key of the first n maturities that does not stand once in the list with its day, 65,536 where none.
-- The loop keeps: looking on from place i with the least so far gives what looking from the first place with 65,536 gives
-- (`place-next`); from n on nothing is left, and it is the least so far (`place-done`).
use Rattle.table_vendor.specs.Vendor.{entries_of}
use Rattle.table_vendor.proofs.ListEntries.{place-next, place-done}
use mathlib.Core.Path.{refl, ◌∙◌, sym}
use native.Mathlib.Omega.{arith}
use Rattle.table_vendor.proofs.least_listed.Goals as goal

-- ---- the loop
pub loop-i-init : goal.loop-i-init
loop-i-init c = (omega (arith, c.well_formed.0.1.0.1), omega arith, refl)

pub loop-i-preserved : goal.loop-i-preserved
loop-i-preserved c =
    let v = c.loop-i.invariant in (
      v.0,
      v.1,
      place-next (entries_of c.args.list.now) c.args.maturities c.args.n c.loop-i.i v.0 c.loop-i.least
          c.loop-i-test.true c.lesser_of-least.result (rw c.stands_once-once.ensures at c.lesser_of-least.ensures) ∙ v.2,
    )

-- ---- after the loop
pub returns : goal.returns
returns c =
    let v = c.loop-i.invariant in
    sym (place-done (entries_of c.args.list.now) c.args.maturities c.args.n c.loop-i.i v.0 c.loop-i.least
    c.loop-i-test.false) ∙ v.2
