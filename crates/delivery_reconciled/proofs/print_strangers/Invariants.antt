-- One row after the other, as long as there is one and room for its line.
use Prim.Native.Nat.{◌-◌}
use Rattle.delivery_reconciled.proofs.Strangers.{Printing}
use Rattle.delivery_reconciled.proofs.print_strangers.Given as goal

abbrev pub invariant-loop-line : goal.invariant-loop-line
invariant-loop-line l = Printing l.file l.ids l.n l.from l.initial.out l.next l.length l.lines l.out

abbrev pub decreases-loop-line : goal.decreases-loop-line
decreases-loop-line l = l.n - l.next
