-- What was told is as long as the lines before the next one, where all lines come next; each line then comes next, and at the end all lines are
-- there.
use Rattle.std.proofs.Common.{◌≡◌, ◌+◌, ◌≤◌, length}
use Rattle.file_text_print.specs.WholeText.{NextOf}
use Rattle.delivery_refusals.specs.Refusals.{unknown_lines}
use Rattle.delivery_parts.specs.PlaceParts.{deliver_refusals}
use Rattle.delivery_handing.proofs.tell_unknown.Given as goal

abbrev pub invariant-loop-i : goal.invariant-loop-i
invariant-loop-i l =
    (l.h.sent ≡ l.initial.h.sent)
    × (l.count ≤ 6553 → l.initial.h.told ≤ 1000000000 → NextOf (deliver_refusals l.file l.text) l.initial.h.told (unknown_lines l.file l.calls l.ids l.count)
    → l.h.told ≡ l.initial.h.told + length (unknown_lines l.file l.calls l.ids l.i))
