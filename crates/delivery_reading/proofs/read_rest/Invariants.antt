-- Part after part: the input so far brought what the lists hold, and each turn makes one of the reads that are left.
use mathlib.Core.Path.{◌≡◌}
use Prim.Native.Nat.{ℕ}
use lib.ListN.{length}
use Rattle.delivery_receipts.specs.Receiving.{room_in, SameLengths}
use Rattle.delivery_reading.specs.Reading.{RowsReadTo}
use Rattle.delivery_reading.proofs.read_rest.Given as goal

abbrev pub invariant-loop-rt : goal.invariant-loop-rt
invariant-loop-rt l =
    SameLengths (record { ids = l.initial.ids; keys = l.initial.keys; days = l.initial.days; fulls = l.initial.fulls; numbers = l.initial.numbers; backs = l.initial.backs })
    (record { ids = l.ids; keys = l.keys; days = l.days; fulls = l.fulls; numbers = l.numbers; backs = l.backs }) × (length l.part ≡ length l.initial.part)
    × ((told : ℕ) → room_in (record {
      ids = l.initial.ids;
      keys = l.initial.keys;
      days = l.initial.days;
      fulls = l.initial.fulls;
      numbers = l.initial.numbers;
      backs = l.initial.backs;
    }) ≡ 65536
    → RowsReadTo l.file told (record {
      ids = l.initial.ids;
      keys = l.initial.keys;
      days = l.initial.days;
      fulls = l.initial.fulls;
      numbers = l.initial.numbers;
      backs = l.initial.backs;
    }) l.initial.input.left
    l.initial.input.bytes l.initial.k
    → RowsReadTo l.file told (record { ids = l.ids; keys = l.keys; days = l.days; fulls = l.fulls; numbers = l.numbers; backs = l.backs }) l.input.left
    l.input.bytes l.k)

abbrev pub decreases-loop-rt : goal.decreases-loop-rt
decreases-loop-rt l = l.input.left
