-- The loop keeps: `from` is within the line, i is at most k, and the fields after the first i are those of the line from `from` on. Where the line
-- ends first there is none (`field-beyond`); at k the field goes up to the next separator (`field-here`).
use mathlib.Core.Path.{◌≡◌}
use Prim.Native.Nat.{◌≤◌}
use lib.ListN.{length, drop}
use Rattle.delivery_items.specs.Items.{fields_of}
use Rattle.delivery_items.proofs.raw_field.Given as goal

-- ---- the loop's invariant
abbrev pub invariant-loop-i : goal.invariant-loop-i
invariant-loop-i l = (l.from ≤ length l.line) × (l.i ≤ l.k) × (drop l.i (fields_of l.line) ≡ fields_of (drop l.from l.line))
