-- The loop keeps: no byte from `from` up to i is a separator.
use mathlib.Core.Path.{◌≡◌}
use Prim.Native.Nat.{◌≤◌, ◌<◌}
use mathlib.Core.Bool.{true}
use lib.ListN.{get_or}
use Rattle.delivery_items.specs.Items.{separator}
use Rattle.delivery_items.proofs.separator_from.Given as goal

-- ---- the loop's invariant
abbrev pub invariant-loop-i : goal.invariant-loop-i
invariant-loop-i l = (j : _) → l.from ≤ j → j < l.i → separator (get_or l.line j 0) ≡ true → ⊥
