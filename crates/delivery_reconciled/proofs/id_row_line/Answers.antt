-- The first row with an id that is not in the file has its line, any other none.
use Rattle.questions.proofs.Bools.{said-no, said-yes}
use Rattle.delivery_reconciled.proofs.Strangers.{row-none, row-some}
use Rattle.delivery_reconciled.proofs.id_row_line.Goals as goal

pub returns-then-not-is_first_unknown : goal.returns-then-not-is_first_unknown
returns-then-not-is_first_unknown c = row-none _ _ _ _ (said-no c.is_first_unknown.ensures c.if-not-is_first_unknown.true) c.empty_line.ensures

pub returns : goal.returns
returns c = row-some _ _ _ _ (said-yes c.is_first_unknown.ensures c.if-not-is_first_unknown.false) _ c.id_in.ensures
    c.unknown_line.ensures
