-- Whether the notice is a call of the product is what `concerns` says: where it is none all stays, else the call is made.
use Rattle.questions.proofs.Bools.{said-no, said-yes}
use Rattle.delivery_tables.proofs.NoticesOnTable.{concerns-is, made-not, noticed-call}
use Rattle.delivery_tables.proofs.notice_at.Goals as goal

pub returns-then-not-concerns : goal.returns-then-not-concerns
returns-then-not-concerns c = λ k.
    let args = c.args in
    made-not _ _ _ _ _
    (said-no
    (concerns-is args.calls.now args.ids.now args.id args.i _ _ _ c.call_number-kind.ensures c.id_in.ensures
    c.concerns.ensures)
    c.if-not-concerns.true)

pub returns : goal.returns
returns c = λ k.
    let args = c.args in
    rw
    (← noticed-call _ _ _
    (said-yes
    (concerns-is args.calls.now args.ids.now args.id args.i _ _ _ c.call_number-kind.ensures c.id_in.ensures
    c.concerns.ensures)
    c.if-not-concerns.false))
    (c.call_at.ensures k)
