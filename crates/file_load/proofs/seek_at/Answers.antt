-- The place of the first record with an id, from a place on; the block after the last where there is none.
-- The loop keeps: the first place from p on is the first from where it began. A record with the id ends it (seek-here), another does not (seek-next).
-- After the last place there is none (seek-none), which is the place after the last block (place-past).
use mathlib.Core.Path.{refl, sym, ap, ◌∙◌}
use native.Mathlib.Omega.{arith}
use Rattle.file_load.specs.Load.{place_of}
use Rattle.file_load.proofs.Seeking.{seek-none, seek-here, seek-next, place-past}
use Rattle.file_load.proofs.seek_at.Goals as goal

pub loop-p-init : goal.loop-p-init
loop-p-init c = refl

-- ---- a record with the id
pub returns-then-has_id : goal.returns-then-has_id
returns-then-has_id c = ap place_of (sym (seek-here _ _ _ (omega arith) (sym c.has_id.ensures ∙ c.if-has_id.true)) ∙ c.loop-p.invariant)

-- ---- the turn that goes on
pub loop-p-preserved : goal.loop-p-preserved
loop-p-preserved c = seek-next _ _ _ (omega arith) (sym c.has_id.ensures ∙ c.if-has_id.false) ∙ c.loop-p.invariant

-- ---- no record with the id
pub returns : goal.returns
returns c = place-past c.args.file.now _ (sym c.loop-p.invariant ∙ seek-none _ _ _ (omega arith))
