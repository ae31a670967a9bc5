-- The id of a product, or the one before.
use mathlib.Core.Path.{refl}
use borrow.Author.Tests.{eq-eqb, ne_eqb}
use Rattle.file_text_faults.specs.Faults.{id_after}
use Rattle.file_text_faults.proofs.id_after.Goals as goal

pub returns-then-e-eq80 : goal.returns-then-e-eq80
unfolding id_after
returns-then-e-eq80 c = rw (eq-eqb _ 80 c.if-e-eq80.true) c.id_of.ensures

pub returns : goal.returns
unfolding id_after
returns c = rw (ne_eqb _ 80 c.if-e-eq80.false) refl
