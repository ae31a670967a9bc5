-- Line after line: the bytes up to the place that is reached brought what is kept.
use Prim.Native.Nat.{◌-◌}
use lib.ListN.{length, drop}
use Rattle.delivery_row_parts.specs.RowParts.{PartTold}
use Rattle.delivery_row_parts.proofs.receive_part.Given as goal

abbrev pub invariant-loop-at : goal.invariant-loop-at
invariant-loop-at l =
    PartTold l.file l.initial.s (record {
      ids = l.initial.ids;
      keys = l.initial.keys;
      days = l.initial.days;
      fulls = l.initial.fulls;
      numbers = l.initial.numbers;
      backs = l.initial.backs;
    }) l.part l.s
    (record { ids = l.ids; keys = l.keys; days = l.days; fulls = l.fulls; numbers = l.numbers; backs = l.backs }) (drop l.at l.part)

abbrev pub decreases-loop-at : goal.decreases-loop-at
decreases-loop-at l = length l.part - l.at
