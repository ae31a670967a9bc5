-- The fault that is kept for a question, by the question.
use mathlib.Core.Path.{refl}
use borrow.Author.Tests.{eq-eqb, ne_eqb}
use Rattle.file_text_faults.specs.Faults.{fault_kept}
use Rattle.file_text_faults.proofs.fault_for.Goals as goal

pub returns-then-question-eq5 : goal.returns-then-question-eq5
unfolding fault_kept
returns-then-question-eq5 c = rw (eq-eqb _ 5 c.if-question-eq5.true) refl

pub returns-then-question-eq7 : goal.returns-then-question-eq7
unfolding fault_kept
returns-then-question-eq7 c = rw (ne_eqb _ 5 c.if-question-eq5.false, eq-eqb _ 7 c.if-question-eq7.true) refl

pub returns-then-question-eq8 : goal.returns-then-question-eq8
unfolding fault_kept
returns-then-question-eq8 c = rw (ne_eqb _ 5 c.if-question-eq5.false, ne_eqb _ 7 c.if-question-eq7.false, eq-eqb _ 8 c.if-question-eq8.true) refl

pub returns : goal.returns
unfolding fault_kept
returns c = rw (ne_eqb _ 5 c.if-question-eq5.false, ne_eqb _ 7 c.if-question-eq7.false, ne_eqb _ 8 c.if-question-eq8.false) refl
