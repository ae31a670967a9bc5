-- Without room, without a record and without a table nothing is listed; else it is what the table lists.
use Rattle.questions.proofs.Bools.{said-no, said-yes}
use Rattle.delivery_reconciled.proofs.Listed.{listed-idle, listed-empty, listed-refused, listed-table}
use Rattle.delivery_reconciled.proofs.listed_at.Goals as goal

pub returns-then-refusals-count : goal.returns-then-refusals-count
returns-then-refusals-count c = listed-idle _ _ _ _ _ _ _ _ _ c.id_at-id.ensures _ c.kind_at-kind.ensures c.if-refusals-count.true _
    c.nothing_listed.ensures

pub returns-then-not-is_record : goal.returns-then-not-is_record
returns-then-not-is_record c =
    listed-empty _ _ _ _ _ _ _ _ _ c.id_at-id.ensures _ c.kind_at-kind.ensures
    c.if-refusals-count.false
    (said-no c.is_record.ensures c.if-not-is_record.true) _ c.nothing_listed-then-not-is_record.ensures

pub returns-then-d-ne0 : goal.returns-then-d-ne0
returns-then-d-ne0 c =
    listed-refused _ _ _ _ _ _ _ _ _ c.id_at-id.ensures _
    c.kind_at-kind.ensures
    c.if-refusals-count.false
    (said-yes c.is_record.ensures
    c.if-not-is_record.false) _ _ c.deliver-d.ensures
    c.if-d-ne0.true _ c.nothing_listed-then-d-ne0.ensures

pub returns : goal.returns
returns c =
    listed-table _ _ _ _ _ _ _ _ _
    c.id_at-id.ensures _
    c.kind_at-kind.ensures
    c.if-refusals-count.false
    (said-yes c.is_record.ensures
    c.if-not-is_record.false) _ _
    c.deliver-d.ensures c.if-d-ne0.false _
    c.places_of_kind-listed.ensures.0
