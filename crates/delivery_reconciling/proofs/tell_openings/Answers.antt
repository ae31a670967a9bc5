-- One place after the other: what was told is the lines of the places before, and whether one of them was refused is known.
use Rattle.delivery_reconciling.proofs.Openings.{openings-none, openings-more, refused_none, refused-more}
use Rattle.delivery_reconciling.proofs.tell_openings.Goals as goal

pub loop-p-init : goal.loop-p-init
loop-p-init c = (openings-none _ _, refused_none _)

pub tell_opening-so_far-requires : goal.tell_opening-so_far-requires
tell_opening-so_far-requires c = c.opening_line-line.ensures

pub loop-p-preserved : goal.loop-p-preserved
loop-p-preserved c = (
  openings-more _ _ _ _ _ c.loop-p.invariant.0 c.tell_opening-so_far.ensures,
  refused-more _ _ _ _ _ _ c.loop-p.invariant.1 _ c.opening_line-line.ensures,
)
