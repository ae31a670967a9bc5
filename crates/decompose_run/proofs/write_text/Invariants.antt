-- What was written is the text of the lines before the next one; each part that is printed comes next, and at the end all lines are there.
use mathlib.Core.Path.{◌≡◌}
use Prim.Native.Nat.{◌-◌, ◌≤◌}
use lib.ListN.{length}
use Rattle.file_text_print.specs.Contents.{line_count, lines_text}
use Rattle.decompose_run.proofs.write_text.Given as goal

abbrev pub invariant-loop-next : goal.invariant-loop-next
invariant-loop-next l =
    (length l.out ≡ length l.initial.out) × (l.next ≤ line_count l.cal l.file) × (l.sent.bytes ≡ length (lines_text l.cal l.file l.next))

abbrev pub decreases-loop-next : goal.decreases-loop-next
decreases-loop-next l = l.count - l.next
