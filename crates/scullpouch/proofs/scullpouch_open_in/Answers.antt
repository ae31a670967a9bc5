-- Opens a table by a verdict that is at hand: the library's open by it, its outcome flat.
use mathlib.Core.Path.{◌∙◌, ap}
use Rattle.c_types.specs.Flat.{flat_outcome}
use Rattle.scullpouch.proofs.scullpouch_open_in.Goals as goal

pub returns : goal.returns
returns c = c.flat_outcome.ensures ∙ ap flat_outcome c.open_in.ensures
