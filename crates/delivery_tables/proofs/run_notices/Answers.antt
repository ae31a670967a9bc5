-- The loop keeps: the table of the rest and its maps is the one that the calls so far leave, the buffer holds their refusals, and question 10 has the
-- answer that it had at the start.
use mathlib.Core.Path.{refl}
use native.Mathlib.Omega.{arith}
use Rattle.delivery_notices.specs.NoticeLists.{notice_at}
use Rattle.delivery_tables.proofs.NoticesOnTable.{begins, turns, tenth-turns, ends}
use Rattle.delivery_tables.proofs.run_notices.Goals as goal

pub loop-i-init : goal.loop-i-init
loop-i-init c = let p = c.requires in (p.0, omega arith, p.1, begins _ _ _ _ _)

pub bounds-refusals-i : goal.bounds-refusals-i
bounds-refusals-i c =
    let v = c.loop-i.invariant in
    omega (arith, v.0, v.3.long, c.loop-i-test.true)

pub loop-i-preserved : goal.loop-i-preserved
loop-i-preserved c =
    let v = c.loop-i.invariant in
    let made = c.notice_at-o.ensures v.2 in
    let args = c.args in
    let i = c.loop-i.i in (
      v.0,
      omega arith,
      tenth-turns args.id _ (notice_at args.calls.now args.ids.now i) _ _ _ _ v.2 made,
      turns args.id args.calls.now args.ids.now args.refusals.now _ _ _ _ i _ _ _ v.3
          (omega (arith, v.0, c.loop-i-test.true)) made refl,
    )

pub shape_of-refusals : goal.shape_of-refusals
shape_of-refusals c = c.loop-i.invariant.3.long

pub returns : goal.returns
returns c =
    let v = c.loop-i.invariant in
    ends _ _ _ _ _ _ _ _ _ v.3 (omega (arith, v.1, c.loop-i-test.false))
