-- `answer_part` answers the lines that end in a part. The loop keeps: the answers in the buffer, then
-- those to what is left of the part, are those to all of it (`Going`), and question 10 is as it is carried
-- along. Each turn leads on in the part; where `goes_on` says no the answers are complete (`finishes`).
use native.Mathlib.Omega.{arith}
use Rattle.session_parts.proofs.TermsPassing.{has-next, begins, goes, finishes}
use Rattle.session_parts.proofs.answer_part.Goals as goal

-- ---- before the loop
pub loop-judged-init : goal.loop-judged-init
loop-judged-init c = (
  begins _ _ _ _ _ _,
  record {
    calendar = c.is_calendar_sound-right.ensures;
    tenth =
        rw c.table_rest-rest.ensures c.is_sound-ten.ensures;
  },
)

-- ---- a turn
pub answer_next-s-requires : goal.answer_next-s-requires
answer_next-s-requires c =
    let h = has-next _ _ _ _ c.goes_on.ensures c.loop-judged-test.true in
    (h.0, h.1, c.loop-judged.invariant.1)

pub loop-judged-smaller : goal.loop-judged-smaller
loop-judged-smaller c =
    let n = c.answer_next-s.ensures.0 in
    omega (arith, n.on.0, n.on.1)

pub loop-judged-preserved : goal.loop-judged-preserved
loop-judged-preserved c =
    let n = c.answer_next-s.ensures in
    let v = c.loop-judged.invariant in
    (goes _ _ _ _ _ _ _ _ v.0 _ _ c.goes_on.ensures c.loop-judged-test.true n.0, n.1)

-- ---- the end
pub shape_of-out : goal.shape_of-out
shape_of-out c = c.loop-judged.invariant.0.long

pub returns : goal.returns
returns c =
    let a = finishes _ _ _ _ _ _ _ _ c.loop-judged.invariant.0 c.goes_on.ensures c.loop-judged-test.false in
    rw c.put_together.ensures (rw c.table_rest-rest.ensures at a)
