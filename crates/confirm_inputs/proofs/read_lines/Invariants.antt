-- The lines that are left, with what is known, print what all lines print; each line takes bytes, so the numbers fit the list.
use Prim.Native.Nat.{◌-◌}
use lib.ListN.{length}
use Rattle.confirm_inputs.proofs.InputLines.{Going}
use Rattle.confirm_inputs.proofs.read_lines.Given as goal

abbrev pub invariant-loop-from : goal.invariant-loop-from
invariant-loop-from l = Going l.long l.file l.text l.initial.list l.list l.s l.from l.count l.number

abbrev pub decreases-loop-from : goal.decreases-loop-from
decreases-loop-from l = length l.text - l.from
