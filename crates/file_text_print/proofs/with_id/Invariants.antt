-- The loop keeps: `whole` with the characters that are left is the line with the id's characters. A space ends the characters (id-ends),
-- another byte is one of them (id-goes-on), and after four bytes none are left (id-whole).
use mathlib.Core.Path.{◌≡◌}
use lib.ListN.{drop}
use Rattle.session_lines.specs.CommandLines.{fed}
use Rattle.file_text_print.specs.Contents.{id_text}
use Rattle.file_text_print.proofs.with_id.Given as goal

-- ---- what the loop keeps
abbrev pub invariant-loop-byte : goal.invariant-loop-byte
invariant-loop-byte l = fed l.whole (id_text (drop l.byte-index l.fn.id)) ≡ fed l.initial.whole (id_text l.fn.id)
