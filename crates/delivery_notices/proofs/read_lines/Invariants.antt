-- The loop keeps: the text and the lists have their lengths, and the lines before `from` are taken (`Going`), of which the room for the next
-- follows. A turn takes one line more (`goes_on`); at the end all are taken (`all_lines`).
use Prim.Native.Nat.{◌-◌, ◌≤◌}
use lib.ListN.{length}
use Rattle.delivery_notices.proofs.NoticesSoFar.{Going}
use Rattle.delivery_notices.proofs.read_lines.Given as goal

-- ---- the loop's invariant and its measure
abbrev pub invariant-loop-from : goal.invariant-loop-from
invariant-loop-from l =
    (length l.text ≤ 65537) × (32770 ≤ length l.initial.calls) × (26216 ≤ length l.initial.ids) × Going l.text l.long l.initial.calls l.initial.ids l.t l.calls l.ids l.from

abbrev pub decreases-loop-from : goal.decreases-loop-from
decreases-loop-from l = length l.text - l.from
