-- Each turn makes one of the reads that are left and takes in the bytes that it brought; where none is left, the list was read.
use mathlib.Core.Path.{◌≡◌}
use lib.ListN.{length}
use Rattle.file_text_told.specs.Whole.{ReadTo}
use Rattle.compose_run.proofs.read_list.Given as goal

abbrev pub invariant-loop-rt : goal.invariant-loop-rt
invariant-loop-rt l = (length l.part ≡ 65536) × ReadTo l.taken l.line l.records l.input.bytes

abbrev pub decreases-loop-rt : goal.decreases-loop-rt
decreases-loop-rt l = l.input.left
