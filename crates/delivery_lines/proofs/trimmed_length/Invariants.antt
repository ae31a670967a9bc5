-- The loop keeps: the first n bytes trimmed are the line trimmed.
use mathlib.Core.Path.{◌≡◌}
use lib.ListN.{take}
use Rattle.delivery_lines.specs.NoticeLines.{trimmed}
use Rattle.delivery_lines.proofs.trimmed_length.Given as goal

abbrev pub invariant-loop-n : goal.invariant-loop-n
invariant-loop-n l = trimmed (take l.n l.line) ≡ trimmed l.line
