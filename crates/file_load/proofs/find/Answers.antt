-- Question 9: the place of the record with an id. It is the search from block 0, and a search from place 0 is the call (find-whole).
use mathlib.Core.Path.{◌∙◌}
use Rattle.file_load.proofs.LoadAnswers.{find-whole}
use Rattle.file_load.proofs.find.Goals as goal

pub returns : goal.returns
returns c = c.find_from.ensures ∙ find-whole _ _
