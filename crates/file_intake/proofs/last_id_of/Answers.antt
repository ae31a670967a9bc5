-- The id of the last record once a block is taken: the one before where the block has none, else the id at its last record.
-- By the two cases of its count, which `record_count` ensures.
use mathlib.Core.Path.{sym, ◌∙◌}
use borrow.Author.Tests.{eq-eqb, ne_eqb}
use Rattle.file_intake.proofs.last_id_of.Goals as goal

pub returns-then-n-eq0 : goal.returns-then-n-eq0
returns-then-n-eq0 c = simp (eq-eqb _ _ (sym c.record_count-n.ensures.0 ∙ c.if-n-eq0.true))

pub returns : goal.returns
returns c = simp (← c.record_count-n.ensures.0, ne_eqb _ _ c.if-n-eq0.false, c.id_at.ensures)
