-- Shown: the places are the fresh maturities, renumbered after the count given, with months of the old ones keeping their
-- numbers. The loop keeps (`Numbering`): the places before i hold the maturities that are done, these with the rest
-- renumbered are the whole, and at most i numbers have been given, so that the next one fits.
use Rattle.table_numbering.proofs.FirstMaturities.{starts, next, ends}
use native.Mathlib.Omega.{arith}
use Rattle.table_numbering.proofs.number_fresh.Goals as goal

pub loop-i-init : goal.loop-i-init
loop-i-init c = rw c.unused_places-maturities.ensures (starts _ _ _)

pub numbered-s-requires : goal.numbered-s-requires
numbered-s-requires c = omega (arith, c.loop-i.invariant.few)

pub loop-i-preserved : goal.loop-i-preserved
loop-i-preserved c =
    let e = c.numbered-s.ensures in
    next _ _ _ _ _ _ _ _ c.loop-i.invariant c.requires.0 c.loop-i-test.true e.0 e.1

pub returns : goal.returns
returns c = ends _ _ _ _ _ _ c.loop-i.invariant c.loop-i-test.false
