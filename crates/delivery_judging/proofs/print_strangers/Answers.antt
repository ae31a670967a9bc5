-- Row after row, up to the last.
use mathlib.Core.Path.{sym}
use native.Mathlib.Omega.{arith}
use Rattle.delivery_judging.proofs.Rows.{goes_first, more-few, goes_on, goes-all}
use Rattle.delivery_judging.proofs.print_strangers.Goals as goal

pub loop-from-init : goal.loop-from-init
loop-from-init c = (goes_first _ _ _ _, sym c.buffer-out.ensures)

pub write_strangers-so_far-requires : goal.write_strangers-so_far-requires
write_strangers-so_far-requires c = (c.print_strangers-p.ensures.fits, c.print_strangers-p.ensures.is)

pub overflow_add-lines : goal.overflow_add-lines
overflow_add-lines c = omega (
  arith,
  more-few _ _ _ _ _ _ _ c.loop-from.invariant.0
      c.loop-from-test.true _ _ _ c.print_strangers-p.ensures,
  c.ranges.rows,
)

pub loop-from-smaller : goal.loop-from-smaller
loop-from-smaller c =
    omega (
      arith,
      c.print_strangers-p.ensures.moves
          (omega (arith, c.loop-from.invariant.1)) c.loop-from-test.true,
      c.loop-from-test.true,
    )

pub loop-from-preserved : goal.loop-from-preserved
loop-from-preserved c = (
  goes_on _ _ _ _ _ _ _ c.loop-from.invariant.0
      c.loop-from-test.true _ _ _ c.print_strangers-p.ensures _
      c.write_strangers-so_far.ensures,
  omega (arith, c.out-in-loop-from-1.given),
)

pub returns : goal.returns
returns c = goes-all _ _ _ _ _ _ _ c.loop-from.invariant.0 c.loop-from-test.false
