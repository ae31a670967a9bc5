-- Line after line: what stands in the buffer is the text up to the place that is reached.
use mathlib.Core.Path.{refl}
use native.Mathlib.Omega.{arith}
use Rattle.session_parts.proofs.TermsPassing.{has-next}
use Rattle.delivery_sessions.proofs.QueryPassing.{begins, goes, finishes}
use Rattle.delivery_sessions.proofs.answer_part.Goals as goal

pub loop-judged-init : goal.loop-judged-init
loop-judged-init c = (begins _ _ _ _ _ _ _, refl)

pub answer_next-s-requires : goal.answer_next-s-requires
answer_next-s-requires c = has-next _ _ _ _ c.goes_on.ensures c.loop-judged-test.true

pub loop-judged-smaller : goal.loop-judged-smaller
loop-judged-smaller c = let n = c.answer_next-s.ensures in omega (arith, n.on.0, n.on.1)

pub loop-judged-preserved : goal.loop-judged-preserved
loop-judged-preserved c =
    let v = c.loop-judged.invariant in (
      goes _ _ _ _ _ _ _ _ _ v.0 _ _ c.goes_on.ensures c.loop-judged-test.true
          (rw v.1 at c.answer_next-s.ensures),
      omega (arith, v.1),
    )

pub shape_of-refusals : goal.shape_of-refusals
shape_of-refusals c = c.loop-judged.invariant.1

pub shape_of-out : goal.shape_of-out
shape_of-out c = c.loop-judged.invariant.0.long

pub returns : goal.returns
returns c = finishes _ _ _ _ _ _ _ _ _ c.loop-judged.invariant.0 c.goes_on.ensures c.loop-judged-test.false
