-- One law for each answer: no kind, no table, a table that is sound or not.
use Rattle.questions.proofs.Bools.{said-no, said-yes}
use Rattle.c_differences.proofs.ProductDifferences.{no_kind, no_table, sound-table}
use Rattle.c_differences.proofs.is_judgeable.Goals as goal

pub returns-then-not-kind_right : goal.returns-then-not-kind_right
returns-then-not-kind_right c = no_kind _ _ (said-no c.kind_right.ensures c.if-not-kind_right.true)

pub returns-then-d-ne0 : goal.returns-then-d-ne0
returns-then-d-ne0 c = no_table _ _ (said-yes c.kind_right.ensures c.if-not-kind_right.false) c.if-d-ne0.true

pub returns : goal.returns
returns c =
    sound-table _ _ (said-yes c.kind_right.ensures c.if-not-kind_right.false) c.if-d-ne0.false _
    c.unflat_table.ensures _ c.is_sound.ensures
