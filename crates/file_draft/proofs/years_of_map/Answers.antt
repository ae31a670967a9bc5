-- The maps of some years, then zeros.
use mathlib.Core.Path.{refl}
use native.Mathlib.Omega.{arith}
use Rattle.file_draft.proofs.Cover.{years-kept}
use Rattle.file_draft.proofs.years_of_map.Goals as goal

pub returns : goal.returns
returns c = years-kept _ _ _ c.args.years _ refl (omega arith) refl c.copy_from_slice.ensures.len c.copy_from_slice.ensures.after
