-- Before place p the first p places were handed out, where rows are printed, and at the end all places.
use Rattle.std.proofs.Common.{◌≡◌, length}
use Rattle.file_calendar.specs.Calendars.{calendar_answer}
use Rattle.delivery_parts.specs.Handing.{Runs, HandedTo}
use Rattle.delivery_handing.proofs.print_places.Given as goal

abbrev pub invariant-loop-p : goal.invariant-loop-p
invariant-loop-p l =
    (Runs l.file l.text (calendar_answer l.judged) l.t l.calls l.ids → HandedTo l.file l.text 0 l.initial.h.sent.bytes l.initial.h.told
    → HandedTo l.file l.text l.p l.h.sent.bytes l.h.told)
    × (length l.refusals ≡ 6554) × (length l.out ≡ 1024)
