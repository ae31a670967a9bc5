-- The table after the notices, or nothing: where the notices are ready, `deliver` of the library has room, and the flat form of its table is given.
use Rattle.questions.proofs.Bools.{said-no, said-yes}
use Rattle.c_delivery.proofs.NoticesSaid.{notices-length}
use Rattle.c_delivery.proofs.Delivering.{not-ready, delivered}
use Rattle.c_delivery.proofs.deliver.Goals as goal

pub returns-then-not-is_ready : goal.returns-then-not-is_ready
returns-then-not-is_ready c = not-ready _ _ _ _ _ (said-no c.is_ready.ensures c.if-not-is_ready.true) _ c.not_delivered.ensures

pub returns : goal.returns
returns c =
    delivered _ _ _ _ _ (said-yes c.is_ready.ensures c.if-not-is_ready.false) (notices-length _ _ _) _ _
    c.deliver-d.ensures _ c.flat_table-table.ensures
