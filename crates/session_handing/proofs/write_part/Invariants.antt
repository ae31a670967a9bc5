-- The loop keeps: the buffer has its length of 512 or more, and what was sent, then the answers to the part from `s.at` on, are those to all of it
-- (`Handed`). Each turn leads on (`handed-more`); at the end nothing is left (`handed-all`).
use Prim.Native.Nat.{◌-◌, ◌≤◌}
use mathlib.Core.Path.{◌≡◌}
use lib.ListN.{length, drop}
use Rattle.file_calendar.specs.Calendars.{calendar_answer}
use Rattle.table.specs.Table.{open_in}
use Rattle.session_parts.specs.TermsParts.{Handed}
use Rattle.session_handing.proofs.write_part.Given as goal

-- ---- the loop's invariant and its measure
abbrev pub invariant-loop-s : goal.invariant-loop-s
invariant-loop-s l =
    (512 ≤ length l.initial.out) × (length l.out ≡ length l.initial.out)
    × Handed (open_in (calendar_answer l.judged) l.file) l.initial.s.kept l.initial.s.line l.part l.initial.text.sent.bytes l.s.kept l.s.line (drop l.s.at l.part)
    l.text.sent.bytes

abbrev pub decreases-loop-s : goal.decreases-loop-s
decreases-loop-s l = length l.part - l.s.at
