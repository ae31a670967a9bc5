-- The loop keeps: both buffers have 65,536 bytes, the verdict is the file's own, and a run that goes on from here is one from the start, with as
-- many bytes as were read (`CameFar`). Each part leads on (`far-more`), and after the last read the last line ends it (`far-all`, `far-input`).
use mathlib.Core.Path.{◌≡◌}
use lib.ListN.{length}
use Rattle.file_calendar.specs.Calendars.{calendar_answer}
use Rattle.file_load.specs.Load.{judge_call}
use Rattle.table.specs.Table.{open_in}
use Rattle.terms_run.proofs.PartsRead.{CameFar}
use Rattle.terms_run.proofs.answer_all.Given as goal

-- ---- the loop's invariant and its measure
abbrev pub invariant-loop-part : goal.invariant-loop-part
invariant-loop-part l =
    (length l.part ≡ 65536) × (length l.out ≡ 65536) × (calendar_answer l.judged ≡ judge_call l.file)
    × CameFar (open_in (calendar_answer l.judged) l.file) l.k.kept l.k.line l.k.text.sent.bytes l.input.bytes

abbrev pub decreases-loop-part : goal.decreases-loop-part
decreases-loop-part l = l.input.left
