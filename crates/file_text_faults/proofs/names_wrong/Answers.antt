-- A product that question 7 refuses.
use mathlib.Core.Path.{refl, ap}
use mathlib.Core.Bool.{not}
use borrow.Author.Tests.{eq-eqb, ne_eqb}
use Rattle.file_text_faults.specs.Faults.{names_wrong}
use Rattle.file_text_faults.proofs.names_wrong.Goals as goal

pub returns-then-e-ne80 : goal.returns-then-e-ne80
unfolding names_wrong
returns-then-e-ne80 c = rw (ne_eqb _ 80 c.if-e-ne80.true) refl

pub returns : goal.returns
unfolding names_wrong
returns c = rw (eq-eqb _ 80 c.if-e-ne80.false) (ap not c.record_right.ensures)
