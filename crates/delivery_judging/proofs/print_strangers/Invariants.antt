-- Row after row, up to the last.
use mathlib.Core.Path.{◌≡◌}
use Prim.Native.Nat.{◌-◌}
use lib.ListN.{length}
use Rattle.delivery_judging.proofs.Rows.{Going}
use Rattle.delivery_judging.proofs.print_strangers.Given as goal

abbrev pub invariant-loop-from : goal.invariant-loop-from
invariant-loop-from l =
    Going l.file l.ids l.rows l.initial.so_far l.so_far l.lines l.from × (length l.out ≡ 4096)

abbrev pub decreases-loop-from : goal.decreases-loop-from
decreases-loop-from l = l.rows - l.from
