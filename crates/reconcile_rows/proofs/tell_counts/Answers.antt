-- The counts are told where standard output took all.
use Rattle.questions.proofs.Bools.{clash, said-no}
use Rattle.reconcile_rows.proofs.RowsRan.{counts-line}
use Rattle.reconcile_rows.proofs.tell_counts.Goals as goal

pub returns-then-not-is_open : goal.returns-then-not-is_open
returns-then-not-is_open c = λ o. clash o (said-no c.is_open.ensures c.if-not-is_open.true)

pub tell_last-requires : goal.tell_last-requires
tell_last-requires c =
    let n = c.record_count-products.ensures in
    counts-line _ _ _ _ _ n.0 n.1 c.requires.0 c.requires.1 c.requires.2 c.requires.3 _ c.summary_line-line.ensures
