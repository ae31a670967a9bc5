-- The test of a question, by the question.
use mathlib.Core.Path.{refl}
use borrow.Author.Tests.{eq-eqb, ne_eqb}
use Rattle.file_text_faults.specs.Faults.{at_fault}
use Rattle.file_text_faults.proofs.at_fault.Goals as goal

pub returns-then-question-eq5 : goal.returns-then-question-eq5
unfolding at_fault
returns-then-question-eq5 c = rw (eq-eqb _ 5 c.if-question-eq5.true) c.names_weekend.ensures

pub returns-then-question-eq7 : goal.returns-then-question-eq7
unfolding at_fault
returns-then-question-eq7 c = rw (ne_eqb _ 5 c.if-question-eq5.false, eq-eqb _ 7 c.if-question-eq7.true) c.names_wrong.ensures

pub returns-then-question-ne8 : goal.returns-then-question-ne8
unfolding at_fault
returns-then-question-ne8 c = rw (ne_eqb _ 5 c.if-question-eq5.false, ne_eqb _ 7 c.if-question-eq7.false, ne_eqb _ 8 c.if-question-ne8.true) refl

pub returns : goal.returns
unfolding at_fault
returns c =
    rw (ne_eqb _ 5 c.if-question-eq5.false, ne_eqb _ 7 c.if-question-eq7.false, eq-eqb _ 8 c.if-question-ne8.false)
    c.names_earlier.ensures
