-- Whether two ids have the same four bytes: the test of the lists is that of the bytes (same-bytes).
use mathlib.Core.Path.{◌∙◌}
use native.Mathlib.Omega.{arith}
use Rattle.file_load.proofs.SameIds.{same-bytes}
use Rattle.file_load.proofs.same_id.Goals as goal

pub returns : goal.returns
returns c = c.eq.ensures ∙ same-bytes c.args.a c.args.b (omega arith) (omega arith)
