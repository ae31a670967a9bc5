-- Line after line: the bytes up to the place that is reached brought what is kept.
use native.Mathlib.Omega.{arith}
use Rattle.delivery_items.proofs.LineEnds.{end_on}
use Rattle.delivery_row_parts.proofs.PartsTaken.{part_none, part-more, part-all}
use Rattle.delivery_row_parts.proofs.receive_part.Goals as goal

pub loop-at-init : goal.loop-at-init
loop-at-init c = part_none _ _ _ _

pub shape_of-ids : goal.shape_of-ids
shape_of-ids c = c.loop-at.invariant.lengths.ids

pub shape_of-keys : goal.shape_of-keys
shape_of-keys c = c.loop-at.invariant.lengths.keys

pub shape_of-days : goal.shape_of-days
shape_of-days c = c.loop-at.invariant.lengths.days

pub shape_of-fulls : goal.shape_of-fulls
shape_of-fulls c = c.loop-at.invariant.lengths.fulls

pub shape_of-numbers : goal.shape_of-numbers
shape_of-numbers c = c.loop-at.invariant.lengths.numbers

pub shape_of-backs : goal.shape_of-backs
shape_of-backs c = c.loop-at.invariant.lengths.backs

pub returns : goal.returns
returns c = part-all _ _ _ _ _ _ _ c.loop-at.invariant c.loop-at-test.false

pub loop-at-preserved : goal.loop-at-preserved
loop-at-preserved c = part-more _ _ _ _ _ _ c.loop-at.at c.loop-at.invariant _ c.line_from-e.ensures _ _ c.receive_end-s.ensures

pub loop-at-smaller : goal.loop-at-smaller
loop-at-smaller c = omega (arith, end_on _ _ _ _ c.line_from-e.ensures c.loop-at-test.true, c.loop-at-test.true)
