-- Question 5 of the next block: yes for a block that is no calendar block, else what `block_clean` answers. By the two cases of its first byte.
use mathlib.Core.Path.{sym, ◌∙◌}
use borrow.Author.Tests.{eq-eqb, ne_eqb}
use Rattle.file_intake.proofs.calendar_clean.Goals as goal

pub returns-then-byte_at-ne1 : goal.returns-then-byte_at-ne1
returns-then-byte_at-ne1 c = simp (ne_eqb _ _ (λ h. c.if-byte_at-ne1.true (c.byte_at.ensures ∙ h)))

pub returns : goal.returns
returns c = simp (eq-eqb _ _ (sym c.byte_at.ensures ∙ c.if-byte_at-ne1.false), c.block_clean.ensures)
