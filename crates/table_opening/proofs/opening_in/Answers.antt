-- What is listed, with the verdict's calendar, is the opening; a refused one has its number.
use mathlib.Core.Path.{◌∙◌, sym}
use Rattle.table_opening.proofs.Opened.{err-is, refused-opens, accepted-opens}
use Rattle.table_opening.proofs.opening_in.Goals as goal

pub returns-in_err-l : goal.returns-in_err-l
returns-in_err-l c = err-is _ _ c.from_residual.ensures ∙ refused-opens _ _ _ _ _ (sym c.in_err-l.ensures)

pub returns : goal.returns
returns c = accepted-opens _ _ _ _ _ (sym c.in_ok-l.ensures)
