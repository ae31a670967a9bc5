-- The loop keeps: `from` is a place of the line or its end, the count is at most `from` + 1, and the count with the fields that are left after
-- `from` makes all. A separator has one more (`some_left`), the end none (`none_left`).
use mathlib.Core.Path.{◌≡◌}
use Prim.Native.Nat.{◌+◌, ◌-◌, ◌≤◌}
use lib.ListN.{length}
use Rattle.delivery_items.specs.Items.{fields_of}
use Rattle.delivery_items.proofs.FieldsParted.{fields_left}
use Rattle.delivery_items.proofs.field_count.Given as goal

-- ---- the loop's invariant and its measure
abbrev pub invariant-loop-from : goal.invariant-loop-from
invariant-loop-from l = (l.from ≤ length l.line) × (l.count ≤ l.from + 1) × (l.count + fields_left l.line l.from ≡ length (fields_of l.line))

abbrev pub decreases-loop-from : goal.decreases-loop-from
decreases-loop-from l = length l.line - l.from
