-- Opens a table: the library's open of the file, its outcome flat. What the zero table holds plays no part in it.
use mathlib.Core.Path.{◌∙◌, ap}
use Rattle.c_types.specs.Flat.{flat_outcome}
use Rattle.scullpouch.proofs.scullpouch_open.Goals as goal

pub returns : goal.returns
returns c = c.flat_outcome.ensures ∙ ap flat_outcome c.before.«open».ensures
