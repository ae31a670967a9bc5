-- The first part of an input, which is taken without its mark.
-- Assumes nothing.
use mathlib.Core.Path.{◌≡◌, ◌∙◌, ap}
use mathlib.Core.Bool.{Bool, false}
use mathlib.Core.List.{List, []}
use Prim.Native.Nat.{ℕ, ◌-◌, ◌≤◌}
use native.Mathlib.Omega.{arith}
use lib.ListN.{length, take, drop, length-drop}
use lib.Seq.{take_all, length-take-le}
use Rattle.delivery_lines.specs.NoticeLines.{mark_length, unmarked}
use Rattle.delivery_items.specs.declared.LongLine.{LongLine}
use Rattle.delivery_items.specs.Items.{empty_long}
use Rattle.delivery_answers.specs.declared.Standing.{Standing}
use Rattle.delivery_sessions.specs.QueryRuns.{QueryHanded}

without-mark : (part : List ℕ) (mark : ℕ) → mark ≡ mark_length part → take (length part - mark) (drop mark part) ≡ unmarked part
unfolding unmarked
without-mark part mark m = take_all (length part - mark) (drop mark part) (omega (arith, length-drop mark part)) ∙ ap (λ (n : ℕ). drop n part) m

-- the run over the first part after its mark is the run over the input without its mark, from an empty line and line 0
pub first-handed : (of : List ℕ → Standing) (line : LongLine) (n : ℕ) (part : List ℕ) (mark k : ℕ) (b : Bool) (l : LongLine) (m : ℕ)
    → line ≡ empty_long → n ≡ 0 → mark ≡ mark_length part
    → QueryHanded of 1 false line (take (length part - mark) (drop mark part)) n k b l [] m → QueryHanded of 1 false empty_long (unmarked part) 0 k b l [] m
first-handed of line n part mark k b l m e z q h = rw (e, z, without-mark part mark q) at h

-- a first part of three bytes or more
pub three : (n : ℕ) (part : List ℕ) → 3 ≤ n → n ≤ length part → 3 ≤ length (take n part)
three n part h l = omega (arith, length-take-le n part l)
