-- Shown: the answer is the definition's open with a verdict at hand. A refused opening gives the table of zeros with its
-- number (`result-refused`), an accepted one the table opened with its product, calendar and listing (`result-accepted`).
use Rattle.table.proofs.Opens.{result-refused, result-accepted}
use mathlib.Core.Path.{◌∙◌, sym}
use Rattle.table.proofs.open_in.Goals as goal

pub returns-in-Ok : goal.returns-in-Ok
returns-in-Ok c = c.opened_with.ensures ∙ result-accepted _ _ _ _ _ (sym c.opening_in.ensures ∙ c.in-Ok.is)

pub returns-in-Err : goal.returns-in-Err
returns-in-Err c =
    rw (c.refused.ensures, c.zero_table.ensures) (result-refused _ _ _ _ _ (sym c.opening_in.ensures ∙ c.in-Err.is))
