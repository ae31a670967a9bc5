-- From key to key: what is written and what is left are all.
use mathlib.Core.Path.{◌≡◌}
use Prim.Native.Nat.{◌-◌}
use lib.ListN.{length, take}
use Rattle.delivery_differences.specs.Differences.{rows_at}
use Rattle.delivery_judging.proofs.KeysWritten.{Going}
use Rattle.delivery_judging.proofs.print_keys.Given as goal

abbrev pub invariant-loop-from : goal.invariant-loop-from
invariant-loop-from l =
    Going l.l.kind l.l.id (take l.l.listed l.l.maturities) (rows_at l.keys l.days l.fulls l.numbers l.backs l.places) l.initial.so_far l.so_far l.lines l.from
    × (length l.out ≡ 4096)

abbrev pub decreases-loop-from : goal.decreases-loop-from
decreases-loop-from l = 65536 - l.from
