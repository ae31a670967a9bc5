-- The loop keeps: the value is at most that, the bytes from i on are all digits exactly if the word is, and the value continued with them is, held,
-- the word's.
use mathlib.Core.Path.{◌≡◌}
use Prim.Native.Nat.{◌-◌, ◌≤◌}
use lib.ListN.{length, drop}
use Rattle.delivery_lines.specs.NoticeLines.{all_digits, value_from, value_of, held}
use Rattle.delivery_lines.proofs.read_number.Given as goal

-- ---- the loop's invariant and its measure
abbrev pub invariant-loop-i : goal.invariant-loop-i
invariant-loop-i l = (l.value ≤ 1000000000) × (l.i ≤ length l.word) × (all_digits (drop l.i l.word) ≡ all_digits l.word)
    × (held (value_from l.value (drop l.i l.word)) ≡ held (value_of l.word))

abbrev pub decreases-loop-i : goal.decreases-loop-i
decreases-loop-i l = length l.word - l.i
