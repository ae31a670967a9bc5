-- Each turn makes one of the reads that are left and takes in the bytes that it brought; where none is left, the list was read.
use native.Mathlib.Omega.{arith}
use mathlib.Core.Path.{sym, ◌∙◌}
use lib.Seq.{length-take-le}
use Rattle.file_text_told.proofs.Whole.{nothing_read, read-on}
use Rattle.compose_run.proofs.read_list.Goals as goal

pub loop-rt-init : goal.loop-rt-init
loop-rt-init c =
    let room = c.requires in
    let begun = nothing_read _ _ _ _ room c.nothing_taken-taken.ensures c.empty_long_line-line.ensures c.nothing_read-input.ensures.1 in
    (sym c.large_buffer-part.ensures, begun)

pub slice_bounds-take_part-end : goal.slice_bounds-take_part-end
slice_bounds-take_part-end c = sym (length-take-le _ _ c.read_part-read.ensures.within.0)

pub loop-rt-smaller : goal.loop-rt-smaller
loop-rt-smaller c =
    c.read_part-read.ensures.fewer (omega arith) (omega (arith, c.part-in-loop-rt-1.given))
    (omega (arith, c.loop-rt-test.true, c.reads_left.ensures))

pub loop-rt-preserved : goal.loop-rt-preserved
loop-rt-preserved c =
    let read = c.read_part-read.ensures in
    (c.part-in-loop-rt-1.given, read-on _ _ _ _ _ _ _ _ _ _ c.loop-rt.invariant.1 read.within.0 c.take_part-p.ensures read.count)

pub shape_of-records : goal.shape_of-records
shape_of-records c =
    c.loop-rt.invariant.1.room ∙ sym c.requires

pub returns : goal.returns
returns c = (omega (arith, c.reads_left.ensures, c.loop-rt-test.false), c.loop-rt.invariant.1)
