-- The year of the file's first block: this block's where none is taken yet, else the one that is kept. By the two cases of the test.
use borrow.Author.Tests.{eq-eqb, ne_eqb}
use Rattle.file_intake.proofs.first_year_of.Goals as goal

pub returns-then-taken-eq0 : goal.returns-then-taken-eq0
returns-then-taken-eq0 c = simp (eq-eqb _ _ c.if-taken-eq0.true)

pub returns : goal.returns
returns c = simp (ne_eqb _ _ c.if-taken-eq0.false)
