-- A closed day whose weekday is 5 or 6.
use mathlib.Core.Path.{refl}
use Rattle.file_text_faults.specs.Faults.{names_weekend}
use Rattle.file_text_faults.proofs.names_weekend.Goals as goal

pub returns : goal.returns
unfolding names_weekend
returns c = rw c.weekday.ensures refl
