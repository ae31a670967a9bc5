-- Shown: the answer is the definition's; a line of another length is not `YES`, and of four bytes each is compared.
use mathlib.Core.Path.{refl}
use borrow.Author.Tests.{eq-eqb, ne_eqb}
use Rattle.confirm_inputs.specs.ConfirmInputs.{is_yes}
use Rattle.confirm_inputs.proofs.is_yes.Goals as goal

pub returns-then-line-ne4 : goal.returns-then-line-ne4
unfolding is_yes
returns-then-line-ne4 c = rw (ne_eqb _ 4 c.if-line-ne4.true) refl

pub returns : goal.returns
unfolding is_yes
returns c = rw (eq-eqb _ 4 c.if-line-ne4.false) refl
