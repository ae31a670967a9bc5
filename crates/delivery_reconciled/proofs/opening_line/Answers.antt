-- Without a record there is no line; with one it is that of the opening's number.
use Rattle.questions.proofs.Bools.{said-no, said-yes}
use Rattle.delivery_reconciled.proofs.Listed.{opening-none, opening-some}
use Rattle.delivery_reconciled.proofs.opening_line.Goals as goal

pub returns-then-not-is_record : goal.returns-then-not-is_record
returns-then-not-is_record c = opening-none _ _ _ _ _ _ (said-no c.is_record.ensures c.if-not-is_record.true) c.empty_line.ensures

pub returns : goal.returns
returns c = opening-some _ _ _ _ _ _ (said-yes c.is_record.ensures c.if-not-is_record.false) _
    c.id_at-id.ensures _ c.open_in-o.ensures c.refusal_text.ensures
