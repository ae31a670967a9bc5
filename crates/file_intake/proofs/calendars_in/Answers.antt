-- How many calendar blocks a block is: 1 where its first byte is 1, else 0. By the two cases of the test.
use mathlib.Core.Path.{sym, ◌∙◌}
use native.Mathlib.Omega.{arith}
use borrow.Author.Tests.{eq-eqb, ne_eqb}
use Rattle.file_intake.proofs.calendars_in.Goals as goal

pub returns-then-byte_at-eq1 : goal.returns-then-byte_at-eq1
returns-then-byte_at-eq1 c = (simp (eq-eqb _ _ (sym c.byte_at.ensures ∙ c.if-byte_at-eq1.true)), omega arith)

pub returns : goal.returns
returns c = (simp (ne_eqb _ _ (λ h. c.if-byte_at-eq1.false (c.byte_at.ensures ∙ h))), omega arith)
