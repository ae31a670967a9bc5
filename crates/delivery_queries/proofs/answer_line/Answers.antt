-- By what the line asks: nothing, a bad line, or the answer by what is known of its product; and whether it is refused.
use Rattle.questions.proofs.Bools.{said-no, said-yes}
use Rattle.session_text.proofs.TextsInBuffer.{unprinted, room-long}
use Rattle.delivery_queries.proofs.Answering.{printed-nothing, printed-bad, printed-answer, room-64, said-none, said-nothing, said-bad, said-answer}
use Rattle.delivery_queries.proofs.answer_line.Goals as goal

pub returns-then-not-has_room : goal.returns-then-not-has_room
returns-then-not-has_room c = let n = said-no c.has_room.ensures c.if-not-has_room.true in (unprinted n, said-none _ _ _ n)

pub returns-then-q-eq35 : goal.returns-then-q-eq35
returns-then-q-eq35 c =
    let room = said-yes c.has_room.ensures c.if-not-has_room.false in
    let q = c.held_asks-q.ensures in
    (printed-nothing _ _ _ _ q _ _ room c.if-q-eq35.true, said-nothing _ _ _ q _ _ room c.if-q-eq35.true)

pub put_bad-next-requires : goal.put_bad-next-requires
put_bad-next-requires c =
    room-64 _ _ (said-yes c.has_room.ensures c.if-not-has_room.false)

pub returns-then-q-eq0 : goal.returns-then-q-eq0
returns-then-q-eq0 c =
    let room = said-yes c.has_room.ensures c.if-not-has_room.false in
    let q = c.held_asks-q.ensures in (
      printed-bad _ _ _ _ q _ _ room c.if-q-eq0.true _ _ c.put_bad-next.ensures.0 c.put_bad-next.ensures.1,
      said-bad _ _ _ q _ _ room c.if-q-eq0.true,
    )

pub put_answer-requires : goal.put_answer-requires
put_answer-requires c =
    room-long _ _ (said-yes c.has_room.ensures c.if-not-has_room.false)

pub returns : goal.returns
returns c =
    let room = said-yes c.has_room.ensures c.if-not-has_room.false in
    let q = c.held_asks-q.ensures in
    let w = c.put_answer.ensures in (
      printed-answer _ _ _ _ q _ _ room c.if-q-eq35.false c.if-q-eq0.false _ c.standing-s.ensures _ _ w.0 w.1,
      said-answer _ _ _ q _ _ room c.if-q-eq35.false c.if-q-eq0.false _ c.standing-s.ensures _ w.2,
    )
