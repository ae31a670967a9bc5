-- A product whose id does not rise.
use mathlib.Core.Path.{refl, ap}
use mathlib.Core.Bool.{not}
use borrow.Author.Tests.{eq-eqb, ne_eqb}
use Rattle.file_text_faults.specs.Faults.{names_earlier}
use Rattle.file_text_faults.proofs.names_earlier.Goals as goal

pub returns-then-e-ne80 : goal.returns-then-e-ne80
unfolding names_earlier
returns-then-e-ne80 c = rw (ne_eqb _ 80 c.if-e-ne80.true) refl

pub returns : goal.returns
unfolding names_earlier
returns c = rw (eq-eqb _ 80 c.if-e-ne80.false, ← c.id_of.ensures) (ap not c.id_rises.ensures)
