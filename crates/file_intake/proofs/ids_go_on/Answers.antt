-- Question 8 of the next block: its ids rise, and its first id is greater than the last before the block.
-- The returns are: ids that do not rise, no record before, no record here, and the two ids compared; each cites the tests before it.
use borrow.Author.Tests.{eq-eqb, ne_eqb}
use Rattle.questions.proofs.Bools.{said-no, said-yes}
use Rattle.file_intake.proofs.ids_go_on.Goals as goal

pub returns-then-not-ids_rise : goal.returns-then-not-ids_rise
returns-then-not-ids_rise c = simp (said-no c.ids_rise.ensures c.if-not-ids_rise.true)

pub returns-then-records-eq0 : goal.returns-then-records-eq0
returns-then-records-eq0 c = simp (said-yes c.ids_rise.ensures c.if-not-ids_rise.false, eq-eqb _ _ c.if-records-eq0.true)

pub returns-then-not-is_record : goal.returns-then-not-is_record
returns-then-not-is_record c =
    simp (
      said-yes c.ids_rise.ensures c.if-not-ids_rise.false,
      ne_eqb _ _ c.if-records-eq0.false,
      said-no c.is_record.ensures c.if-not-is_record.true,
    )

pub returns : goal.returns
returns c =
    simp (
      said-yes c.ids_rise.ensures c.if-not-ids_rise.false,
      ne_eqb _ _ c.if-records-eq0.false,
      said-yes c.is_record.ensures c.if-not-is_record.false,
      c.id_rises.ensures,
      c.id_at.ensures,
    )
