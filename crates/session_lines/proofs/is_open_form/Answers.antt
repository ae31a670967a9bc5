-- Shown: the answer is whether the line has the form of an open up to the date. A k of 0 or above 4 is no (`open-few`,
-- `open-many`); else the three tests are the definition's (`open-rest`), and every byte read is within the line.
use Rattle.session_lines.proofs.CommandForms.{open-few, open-many, open-rest}
use mathlib.Core.Path.{sym}
use Rattle.session_lines.proofs.is_open_form.Goals as goal

pub returns-then-k-lt1 : goal.returns-then-k-lt1
returns-then-k-lt1 c = sym (open-few _ _ c.if-k-lt1.true)

pub returns-then-k-gt4 : goal.returns-then-k-gt4
returns-then-k-gt4 c = sym (open-many _ _ c.if-k-gt4.true)

pub returns : goal.returns
returns c = open-rest _ _ _ c.if-k-lt1.false c.if-k-gt4.false c.is_id_form.ensures
