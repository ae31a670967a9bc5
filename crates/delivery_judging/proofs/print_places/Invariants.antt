-- Place after place, up to the last.
use mathlib.Core.Path.{◌≡◌}
use lib.ListN.{length}
use Rattle.file_calendar.specs.Calendars.{calendar_answer}
use Rattle.table.specs.Table.{open_in}
use Rattle.delivery_judging.specs.LinesOut.{PlacesOut}
use Rattle.delivery_judging.proofs.print_places.Given as goal

abbrev pub invariant-loop-p : goal.invariant-loop-p
invariant-loop-p l =
    PlacesOut (open_in (calendar_answer l.judged) l.file) l.file l.t.date l.t.count l.calls l.of
    (record { ids = l.ids; keys = l.keys; days = l.days; fulls = l.fulls; numbers = l.numbers; backs = l.backs }) l.rows (length l.initial.places) l.p l.initial.so_far
    (record { sent = l.so_far; lines = l.lines }) × (length l.places ≡ length l.initial.places)
