-- Before the first line no fault is kept.
use mathlib.Core.Path.{refl}
use Rattle.file_text_faults.specs.Faults.{no_faults}
use Rattle.file_text_faults.proofs.no_faults.Goals as goal

pub returns : goal.returns
unfolding no_faults
returns c = refl
