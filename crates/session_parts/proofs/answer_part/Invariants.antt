-- The loop keeps: the answers in the buffer, then those to what is left of the part, are those to all of it (`Going`), and question 10 is as it is
-- carried along. Each turn leads on in the part; where `goes_on` says no the answers are complete (`finishes`).
use Prim.Native.Nat.{◌-◌}
use lib.ListN.{length}
use Rattle.file_calendar.specs.Calendars.{calendar_answer}
use Rattle.table.specs.Table.{open_in}
use Rattle.session_parts.specs.TermsParts.{progress_with, KnownStep}
use Rattle.session_parts.proofs.TermsPassing.{Going}
use Rattle.session_parts.proofs.answer_part.Given as goal

-- the table that is kept answers question 10 as it is carried along
abbrev pub invariant-loop-judged : goal.invariant-loop-judged
invariant-loop-judged l =
    Going (open_in (calendar_answer l.judged) l.file) (progress_with l.initial.s l.initial.closed l.initial.exchange).kept
    l.initial.s.line l.part l.initial.s.at l.initial.out l.out (progress_with l.s l.closed l.exchange)
    × KnownStep l.judged l.right l.s l.closed l.exchange

-- ---- the loop's measure
abbrev pub decreases-loop-judged : goal.decreases-loop-judged
decreases-loop-judged l = length l.part - l.s.at
