-- The loop keeps `Printing`: the lines before `from` and the buffer's first `length` bytes are all lines before `next`, and the rest is as it was. A
-- yes of `goes_on` gives room for the line, which has at most 64 bytes (line-fits); its no ends the text or the room (ends).
use Prim.Native.Nat.{◌-◌}
use Rattle.file_text_print.proofs.PrintedLines.{Printing}
use Rattle.file_text_print.proofs.print_lines.Given as goal

-- ---- what the loop keeps, and what falls
abbrev pub invariant-loop-cal : goal.invariant-loop-cal
invariant-loop-cal l = Printing l.cal l.file l.from l.initial.out l.next l.length l.out

abbrev pub decreases-loop-cal : goal.decreases-loop-cal
decreases-loop-cal l = l.count - l.next
