-- The loop keeps: the line so far ends with the bytes from `i` on where the line given ends with those from `from` on, and `i` is not past
-- both `from` and the part's end. A line feed ends the line (`line-ends`), any other byte makes it longer (`line_on`), and past the last byte
-- the part ends (`part-ends`).
use mathlib.Core.Path.{◌≡◌}
use Prim.Native.Nat.{◌≤◌, max}
use lib.ListN.{length, drop}
use Rattle.delivery_items.specs.LineEnds.{line_end}
use Rattle.delivery_items.proofs.line_from.Given as goal

abbrev pub invariant-loop-i : goal.invariant-loop-i
invariant-loop-i l =
    (l.i ≤ max l.from (length l.part)) × (line_end l.l (drop l.i l.part) l.i ≡ line_end l.initial.l (drop l.from l.part) l.from)
