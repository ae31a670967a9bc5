-- What was read lies within the buffer.
use mathlib.Core.Path.{refl}
use Rattle.reconcile_run.proofs.files.read_master.Goals as goal

pub returns : goal.returns
returns c = (refl, c.read_file_or_tell-read.ensures.0.0)
