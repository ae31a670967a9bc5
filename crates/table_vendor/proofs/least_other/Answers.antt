-- Shown: the least of the key found before and the list's keys that are not listed.
-- The loop keeps: n is the number of entries, and looking on from entry j with the least so far gives what looking at the
-- whole list with the key found before gives (`other-next`); after the last entry it is the least so far (`other-done`).
use Rattle.listing.specs.Months.{places_of_kind}
use Rattle.table_vendor.proofs.ListEntries.{other-next, other-done}
use mathlib.Core.Path.{refl, ◌∙◌, sym}
use native.Mathlib.Omega.{arith}
use lib.ListN.{take}
use Rattle.table_vendor.proofs.least_other.Goals as goal

-- ---- the loop
pub loop-j-init : goal.loop-j-init
loop-j-init c = (c.entry_count-n.ensures.0, c.entry_count-n.ensures.1, refl)

pub overflow_mul-j : goal.overflow_mul-j
overflow_mul-j c = omega (arith, c.loop-j.invariant.1)

pub loop-j-preserved : goal.loop-j-preserved
loop-j-preserved c =
    let v = c.loop-j.invariant in
    let e = c.list_number-key.ensures in
    let f = c.is_listed-listed.ensures in (
      v.0,
      v.1,
      other-next (take (places_of_kind c.args.kind) c.args.maturities) c.args.list.now c.loop-j.j c.loop-j.least
          (omega (arith, v.0, c.loop-j-test.true)) c.lesser_of-least.result (rw (f, e) at c.lesser_of-least.ensures) ∙ v.2,
    )

-- ---- after the loop
pub returns : goal.returns
returns c =
    let v = c.loop-j.invariant in
    sym (other-done (take (places_of_kind c.args.kind) c.args.maturities) c.args.list.now c.loop-j.j c.loop-j.least
    (omega (arith, v.0, c.loop-j-test.false))) ∙ v.2
