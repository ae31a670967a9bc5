-- One place after the other: what was told is the lines of the places before, and whether one of them was refused is known.
use mathlib.Core.Path.{◌≡◌}
use lib.ListN.{length}
use Rattle.questions.specs.Search.{some}
use Rattle.streams.specs.Transfers.{Grew}
use Rattle.file_calendar.specs.Calendars.{calendar_answer}
use Rattle.table.specs.Table.{open_in}
use Rattle.delivery_parts.specs.PlaceParts.{parts_text}
use Rattle.delivery_reconciled.specs.Reconciled.{opening_text, opening_refused}
use Rattle.delivery_reconciling.proofs.tell_openings.Given as goal

abbrev pub invariant-loop-p : goal.invariant-loop-p
invariant-loop-p l =
    Grew l.initial.so_far.bytes (length (parts_text (opening_text (open_in (calendar_answer l.judged) l.file) l.file l.t.opened l.t.date) l.p))
    l.so_far.bytes × (l.refused ≡ some l.p (opening_refused (open_in (calendar_answer l.judged) l.file) l.file l.t.date))
